-- What a contract sees of the owner of the blocks: each block, with where it lies.
use Rattle.std.specs.Prelude.{ℕ, Bool, Option, List, refl}
use Rattle.std.specs.Coded.{Coded, code_by, coded×, coded_ℕ, coded_bool, coded_list, coded_option}
use denote.RawPtr.{Ptr, coded_ptr}
use Rattle.fi_parts.specs.declared.blocks.block.Block.{Block}
use Rattle.fi_parts.specs.declared.blocks.block.BlockPtr.{BlockPtr}
use Rattle.fi_parts.specs.declared.blocks.block.Links.{Links}

pub record OwnedBlocks (T : Type 0) : Type 0 where
  pub blocks : List (Ptr × Block T)

module _ {T : Type 0} where
  abbrev pointer_code : Coded (BlockPtr T)
  pointer_code = code_by Ptr coded_ptr (λ p. p.ptr) (λ p. record { ptr = p }) (λ _. refl)

  abbrev links_code : Coded (Links T)
  links_code =
      code_by
      (Option (BlockPtr T) × (Option (BlockPtr T) × Bool))
      (coded× (coded_option pointer_code) (coded× (coded_option pointer_code) coded_bool))
      (λ l. (l.younger, (l.older, l.linked)))
      (λ p. record { younger = p.0; older = p.1.0; linked = p.1.1 })
      (λ _. refl)

  abbrev block_code : Coded T → Coded (Block T)
  block_code code =
      code_by
      (T × (Links T × ℕ))
      (coded× code (coded× links_code coded_ℕ))
      (λ b. (b.item, (b.links, b.slot)))
      (λ p. record { item = p.0; links = p.1.0; slot = p.1.1 })
      (λ _. refl)

abbrev pub owned_code : {T : Type 0} → Coded T → Coded (OwnedBlocks T)
owned_code {T} code =
    code_by
    (List (Ptr × Block T))
    (coded_list (coded× coded_ptr (block_code code)))
    (λ o. o.blocks)
    (λ bs. record { blocks = bs })
    (λ _. refl)
