-- The owner of the places may cross threads as the blocks' data may.
use Rattle.std.specs.Prelude.{ℕ, List, [], ◌∷◌}
use base.Shift.{Keyless}
use mir.Raw.{raw as bare}
use mir.Syntax.{Ty}
use denote.RattleType.{RattleType}
use denote.Memory.{lone}
use denote.RawPtr.{Ptr, block_ptr, null_ptr, room_for}
use denote.Struct.Struct.{exits_of}
use denote.Struct.Owning.{shape, fields, to}
use denote.Param.Send.{IsSend, IsSync, Common, AllSend, owning_send, struct_send, struct_sync, sendable}
use Rattle.std_alloc.proofs.SendSync.{quiet, lies, seen}
use Rattle.std.proofs.Crossing.{frees}
use Rattle.fi_parts.proofs.blocks.block.Block.TheSendSync.{the_send, the_sync}
use Rattle.fi_parts.specs.BlockOwner.{heap_token, blocks_own, vacancies_own, deed, deeds_own, chunk_ty, blocks_lent}
use Rattle.fi_parts.specs.contracts.blocks.block.Block as block
use Rattle.fi_parts.specs.contracts.blocks.places.BlockPlaces as owner

room : (τ : Ty) (p : Ptr) → Keyless (room_for τ p)
room τ (block_ptr b o) = tt
room τ null_ptr = tt

module _ (B : RattleType) where
  own-Keyless : IsSend B → (bs : List (Ptr × B.Denot)) → Keyless (blocks_own B bs)
  own-Keyless s [] = tt
  own-Keyless s (b ∷ bs) = ((lies B s b.0 b.1, tt), own-Keyless s bs)

  vacancies-Keyless : (vs : List (Ptr × Unit {0})) → Keyless (vacancies_own B vs)
  vacancies-Keyless [] = tt
  vacancies-Keyless (v ∷ vs) = ((room (bare (lone B.mir)) v.0, tt), vacancies-Keyless vs)

  deed-Keyless : (p : Ptr) (n : ℕ) → Keyless (deed B heap_token p n)
  deed-Keyless (block_ptr b o) n = (tt, frees.frees (record { memory = record { seal = tt } }) (chunk_ty B n) (block_ptr b o))
  deed-Keyless null_ptr n = tt

  deeds-Keyless : (cs : List (Ptr × ℕ)) → Keyless (deeds_own B cs)
  deeds-Keyless [] = tt
  deeds-Keyless (c ∷ cs) = (deed-Keyless c.0 c.1, deeds-Keyless cs)

  lent-Common : IsSync B → (bs : List (Ptr × B.Denot)) → Common (blocks_lent B bs)
  lent-Common y [] κ = tt
  lent-Common y (b ∷ bs) κ = (seen B y b.0 b.1 κ, lent-Common y bs κ)

module _ (T : RattleType) where
  pub BlockPlaces-send : IsSend T → IsSend (owner.the_row T)
  BlockPlaces-send s =
      let O = owner.the_type T in let all : AllSend (fields O) = (search sendable, tt) in
      owning_send O all (λ d. (
        own-Keyless (block.the_row T) (the_send T s) d.blocks,
        (vacancies-Keyless (block.the_row T) d.vacant, (deeds-Keyless (block.the_row T) d.chunks, λ _. tt)),
      ))
      (λ k. quiet (to O) (exits_of k (fields O)) ((struct_send (shape O) all).leaving k))

  pub BlockPlaces-sync : IsSync T → IsSync (owner.the_row T)
  BlockPlaces-sync y = let O = owner.the_type T in record {
    shared = λ d b o κ. (
      (struct_sync (shape O) (search sendable, tt)).shared (to O d) b o κ,
      lent-Common (block.the_row T)
          (the_sync T y) d.blocks κ,
    );
  }
