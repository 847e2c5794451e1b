-- A `&` to the owner of the places reaches each block. Assumes `Logic`.
use mathlib.Core.List.{[], ◌++◌}
use base.Fml.{Incl-trans}
use contract.BorrowLft.{meet_⊑_left}
use denote.RattleType.{RattleType}
use denote.RawPtr.{RawPtr}
use denote.Param.Laws.{Laws}
use denote.Param.Shared.{copy_shared}
use denote.Struct.Laws.{field_copy}
use denote.Struct.Lending.{of_Lends}
use Rattle.std.specs.contracts.marker.PhantomData as marker
use Rattle.fi_parts.specs.contracts.blocks.places.BlockPlaces as C
use Rattle.fi_parts.specs.contracts.blocks.block.Block as block
use Rattle.fi_parts.proofs.blocks.block.Block.TheLaws.{the_row_laws, the_within}
use Rattle.fi_parts.proofs.blocks.places.BlockPlaces.TheLaw.Statement.{statement}
use Rattle.fi_parts.proofs.BlockSharing.{lent_laws, Lends-all}

pub shares : (T : RattleType) (L : Laws T) → statement T L
shares T L = of_Lends (C.struct T) (C.the_codes T.Denot T.coded (marker.the_row RawPtr).coded) (C.the_heap T) (C.the_lent T)
    (λ d p. lent_laws (block.the_row T) (the_row_laws T L).shr_laws d.blocks)
    (copy_shared (marker.the_field RawPtr) (field_copy (marker.the_type RawPtr) tt), tt)
    (λ M 𝓤 𝓛 d p.
    Lends-all 𝓛 (C.the_row T).lives (block.the_row T) (the_row_laws T L)
    (the_within T (C.the_row T).lives (Incl-trans (meet_⊑_left (T.lives ++ []) _) (meet_⊑_left T.lives []))) d.blocks d.vacant d.chunks)
