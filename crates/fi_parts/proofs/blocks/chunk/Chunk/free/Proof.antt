-- `free` hands the memory back with the allocator's token. Assumes `Logic`.
use Rattle.fi_parts.proofs.RawWalks.{◌$◌, ◌*◌, ◌++◌, ◌<◌, ◌^◌, ◌∵◌, ◌∷◌, ◌≡◌, ◌⊑◌, ◌⊛◌, !, Al, Bor, Calls, Clauses, El, Ended, Env, FmC, Fn}
use Rattle.fi_parts.proofs.RawWalks.{Fun, Goes-blank, Goes-dropped, Incl-trans, Item, Lft, List, Logic, Loops, Meets, Memory, Ptr}
use Rattle.fi_parts.proofs.RawWalks.{RattleType, RefOf, Routine, SProp, Share, ShrRef, Stays, T, Tables, Triple, Ura, Val, WT, WpFn}
use Rattle.fi_parts.proofs.RawWalks.{WpFn-mono, [], align, align_word, alloc_all, and_then, ap, arith, at_ret, await, bin, block_align}
use Rattle.fi_parts.proofs.RawWalks.{block_ptr, block_size, block_ty, blocks, by, capped, capped_fits, closing, done, elτ, ends_at, ent}
use Rattle.fi_parts.proofs.RawWalks.{enter, entered, env, exec, fact, feq_i, feq_l, first, fjoin, fld, flft, flt_l, fm_of, free_all, fsplit}
use Rattle.fi_parts.proofs.RawWalks.{fst∗, ftrue, get, get_in, given, group, has_ty, hidden_shr, id⊢, in_a_block, inst_fn, is, join, keep}
use Rattle.fi_parts.proofs.RawWalks.{later, learn, look_at, move, named, needs, never, no, no_more, nothing, of_opd, on_entry, owns}
use Rattle.fi_parts.proofs.RawWalks.{pass_all, plain, prop, qed, raw, refl, returns, rewrite, second, sets, size_word, split, stay_dropped}
use Rattle.fi_parts.proofs.RawWalks.{stop, sub, subst, suffices, sym, tables, triple_of, type_size, uncapped, unit_lit, use1, via, vint}
use Rattle.fi_parts.proofs.RawWalks.{vptr, vunit, w64, walk_Meets, walk_of, whole, yes, ‵, ℕ, ⋆}
use contract.Running.{tables_of}
use types.Kit.{regoal}
use Rattle.std_alloc.proofs.VecSteps.Shapes.{after}
use Rattle.core.proofs.mem.Param.{R}
use mir.Syntax.{ty_unit}
use types.ByLocal.{lands_last}
use denote.Triple.Call.{calls_at_last}
use Rattle.core.proofs.alloc.Calls.{token, gives_key, Gives, at_gives, Gives-goes, Gives-Gives}
use Rattle.core.proofs.slots.Leases.{args, P}
use Rattle.fi_parts.specs.BlockOwner.{chunk_owns}
use Rattle.fi_parts.proofs.ChunkSteps.{ChunkRow, chunk_val, chunk_good, chunk_had}
use Rattle.fi_parts.specs.contracts.blocks.chunk.Chunk.free as F
use Rattle.fi_parts.specs.contracts.blocks.chunk.Chunk.free.Key.{name as #self}
use Rattle.fi_parts.proofs.blocks.chunk.Chunk.free.Statement as stated
use Rattle.fi_parts.proofs.blocks.chunk.Chunk.free.Code as code

module _ (E : El) (Z : Al) where
  abbrev function : Fn
  function = inst_fn (args E Z) code.function

  abbrev ended : Ended
  ended = F.ended E.row Z.row Z.g Z.d Z.drops

  abbrev clauses : {M : Type 1} {𝓤 : Ura M} (𝓛 : Logic 𝓤) → (Memory → SProp 𝓤) → (Routine → Fun 𝓤) → Clauses 𝓤 ended
  clauses 𝓛 = F.clauses E.row Z.row Z.g Z.d Z.drops 𝓛

  abbrev Ck : RattleType
  Ck = ChunkRow (R E) (P E Z) Z.g

  abbrev stayed : Stays ended.signature.params ended.kept
  stayed = (stay_dropped (plain (λ _. Ck)) no, (stay_dropped (RefOf (0 ∷ []) tt (plain (λ _. P E Z)) (λ _. tt)) yes, tt))

module _ (E : El) (Z : Al) {M : Type 1} {𝓤 : Ura M} (𝓛 : Logic 𝓤) (at_mem : Memory → SProp 𝓤) (run : Routine
    → Fun 𝓤) (C : Calls 𝓤 𝓛.H) (Λ : Loops 𝓤 𝓛.H) (fm : FmC 𝓤 𝓛.H 𝓛.laws C)
    (callee : Triple 𝓤 (C (gives_key Z)) (Gives Z 𝓛 at_mem run)) (κ κ₁ κ₂ : Lft) (q q₁ q₂ : Share) (short : κ ⊑ κ₂)
    (within : κ₂ ⊑ Z.row.lives) (rb ro : ℕ) (a : Z.row.Denot) (k : (Ck E Z).Denot) (us0 us1 : List Val) where
  open 𝓛 use {H, A}

  abbrev self : Bor Z.row.Denot
  self = record { ref_ptr = (rb, ro); now = a }

  abbrev others : Item 𝓤
  others = ‵ (flft κ₁ q₁) ⊛ ‵ (flft κ₂ q₂) ⊛ ‵ ftrue

  abbrev bound : (walk_of 𝓛 (ended E Z) (stayed E Z) (clauses E Z 𝓛 at_mem run)).Ghost
  bound = (((κ, (κ₁, (κ₂, tt))), (q, (q₁, (q₂, tt))), (short, tt), (k, (self, tt)), (us0, (us1, tt))), tt)

  abbrev Post : Val → SProp 𝓤
  Post = (walk_of 𝓛 (ended E Z) (stayed E Z) (clauses E Z 𝓛 at_mem run)).post bound

  exits : ent 𝓤 (⋆ 𝓛 (‵ (flft κ q) ∷ others ∷ [])) (Post vunit)
  exits =
      qed 𝓛 (‵ (flft κ q) ∷ others ∷ []) ∵
      suffices ! _ (ends_at 𝓛 (ended E Z) (stayed E Z) (clauses E Z 𝓛 at_mem run) bound vunit tt (tt, (tt, tt)) (tt, (tt, tt))) $
      join ! $ feq_i ! (List Val) (vunit ∷ []) (vunit ∷ []) refl $ nothing ! $ nothing ! $ fjoin ! $ nothing ! $
      fjoin ! $ join ! $
      move ! (1 ∷ 0 ∷ []) $ join ! $ nothing ! $ move ! (1 ∷ 0 ∷ []) $ done !

  abbrev Had : List (Item 𝓤)
  Had = ‵ (chunk_owns (R E) (token Z k.alloc) k.at k.len) ∷ ‵ (hidden_shr (P E Z) κ a rb ro) ∷ ‵ (flft κ q) ∷ others ∷ []

  walk : k.alloc ≡ a → k.len < 2 ^ 64 → ent 𝓤 (⋆ 𝓛 Had) (WpFn 𝓤 H C Λ (function E Z) (chunk_val k.at k.len ∷ vptr rb ro ∷ []) Post)
  walk same fits =
      let len : ℕ = k.len in
      qed 𝓛 Had ∵
      in_a_block ! k.at (λ p. chunk_owns (R E) (token Z k.alloc) p len) (via 𝓤 (never 𝓤) (fst∗ 𝓤 (never 𝓤) (never 𝓤)) (id⊢ 𝓤 (never 𝓤)))
      (λ b o e.
      regoal ! (λ (p : Ptr). prop (WpFn 𝓤 H C Λ (function E Z) (chunk_val p len ∷ vptr rb ro ∷ []) Post)) e refl $
      fsplit ! $ move ! (1 ∷ []) $ fsplit ! $ flt_l ! (λ small.
      -- [the token; the room; the handle; the lifetime's token; the others]
      rewrite ! 0 (λ (c : Z.row.Denot). ‵ (token Z c (block_ty E len) (block_ptr b o))) same refl $
      move ! (1 ∷ 0 ∷ []) $
      enter ! C Λ (function E Z) (chunk_val (block_ptr b o) len ∷ vptr rb ro ∷ []) _ $
      alloc_all ! (λ l. pass_all ! refl (chunk_good (R E) (P E Z) Z.g b o len fits, ((tt, tt), tt)) $
      let En : Env 𝓤 H = env (function E Z).locals l in
      let s = type_size (R E) in let al : ℕ = capped (align (elτ E)) in
      let bytes : len * s < 2 ^ 64 = omega (arith, small) in
      let y : (Gives Z 𝓛 at_mem run).Ghost = at_gives Z 𝓛 at_mem run κ q (rb, ro) a b o (len * s) al (block_ty E len) in
      sets ! (of_opd ! (get_in ! (fld ! refl (stop !)) (sub ! 0 refl (whole !)))) refl (tt, tt) $
      sets ! (of_opd ! (get_in ! (fld ! refl (stop !)) (sub ! 1 refl (whole !)))) refl (tt, record { fits = fits }) $
      first ! $ blocks ! $
      sets ! (of_opd ! (get ! refl)) refl (tt, tt) $
      sets ! (is ! (bin ! (get ! refl) (size_word !) (record {
        fits = subst (λ (k : ℕ). k < 2 ^ 64) (sym
            (uncapped len s bytes)) bytes;
      })) (ap (vint w64) (uncapped len s bytes))) refl (tt, record { fits = bytes }) $
      group ! 4 $ use1 𝓛 (raw ((Gives Z 𝓛 at_mem run).pre y)) (Gives-goes Z 𝓛 at_mem run κ q (rb, ro) a (Incl-trans short within) b o
      (len * s) al (block_ty E len) (block_size E len bytes) (block_align E len) bytes (capped_fits (align (elτ E)))) $
      calls_at_last ! fm (Gives Z 𝓛 at_mem run) callee y (and_then ! (get ! refl) (and_then ! (get ! refl) (and_then ! (get ! refl)
      (and_then ! (align_word !) (no_more !))))) (λ v.
      use1 𝓛 (later (given (v ≡ vunit) (‵ (flft κ q)))) (Gives-Gives Z 𝓛 at_mem run κ q (rb, ro) a b o (len * s) al (block_ty E len) v) $
      await ! tt $ learn ! (λ done_with.
      lands_last ! refl (subst (λ (z : Val). T (has_ty ty_unit z) × WT z) (sym done_with) (tt, tt)) $
      exec ! C Λ En (after 3 (function E Z).body) (at_ret En Post) $
      sets ! (of_opd ! (unit_lit !)) refl (tt, tt) $ returns ! (look_at ! 0 refl) $ free_all ! refl $
      keep ! (0 ∷ 1 ∷ []) $ by ! exits)))))

  entry : k.alloc ≡ a → ent 𝓤 (on_entry 𝓛 (ended E Z).signature (κ, (κ₁, (κ₂, tt))) (q, (q₁, (q₂, tt))) (k, (self, tt)) (
    us0,
    (us1, tt),
  )) (WpFn 𝓤 H C Λ (function E Z) (us0 ++ (us1 ++ [])) Post)
  entry same =
      qed 𝓛 ((‵ (flft κ q) ⊛ others) ∷ ‵ (owns (Ck E Z ∷ ShrRef (named 0) κ (P E Z) ∷ []) (k, (self, tt)) (us0, (us1, tt)))
      ∷ []) ∵ split ! $ move ! (2 ∷ []) $ fsplit ! $
      chunk_had (R E) (P E Z) Z.g ! k us0 (λ e0 fits. move ! (1 ∷ []) $ fsplit ! $ fsplit ! $ feq_l ! (λ e1.
      keep ! (2 ∷ 0 ∷ 3 ∷ 4 ∷ []) $
      by ! (subst (λ (ws : List Val × List Val). ent 𝓤 (⋆ 𝓛 Had) (WpFn 𝓤 H C Λ (function E Z) (ws.0 ++ (ws.1 ++ [])) Post)) (λ j.
      (sym e0 j, sym e1 j)) (walk same fits))))

meets : (E : El) (Z : Al) {M : Type 1} {𝓤 : Ura M} (𝓛 : Logic 𝓤) (at_mem : Memory → SProp 𝓤) (run : Routine → Fun 𝓤) (𝓣 : Tables 𝓤 𝓛.H)
    → Triple 𝓤 (𝓣.C (gives_key Z)) (Gives Z 𝓛 at_mem run)
    → Meets 𝓛 (ended E Z).signature (WpFn 𝓤 𝓛.H 𝓣.C 𝓣.Λ (function E Z)) (closing 𝓛 (ended E Z) (clauses E Z 𝓛 at_mem run))
meets E Z {𝓤 = 𝓤} 𝓛 at_mem run 𝓣 callee =
    walk_Meets 𝓛 (ended E Z) (stayed E Z) (
      Goes-blank 𝓛 3 (plain (λ _. Ck E Z)) no (λ κs x f. tt),
      (
        Goes-dropped 𝓛 3 (RefOf (0
            ∷ []) tt (plain (λ _. P E Z)) (λ _. tt)) yes (λ κs x f. refl),
        tt,
      ),
    )
    (clauses E Z 𝓛 at_mem run) (WpFn 𝓤 𝓛.H 𝓣.C 𝓣.Λ (function E Z)) (WpFn-mono 𝓤 𝓛.H 𝓛.laws 𝓣 (function E Z))
    (λ z. let κs = z.0.0 in let qs = z.0.1 in let a = z.0.3 in let vss = z.0.4 in
    let On : SProp 𝓤 = on_entry 𝓛 (ended E Z).signature κs qs a vss in
    let asks = a.0.alloc ≡ a.1.0.now in
    second 𝓤 (κs.1.0 ⊑ E.row.lives) (κs.1.1.0 ⊑ Z.row.lives) On (fact 𝓤 asks) (λ within. needs 𝓤 asks On
    (entry E Z 𝓛 at_mem run 𝓣.C 𝓣.Λ (fm_of 𝓤 𝓛.H 𝓛.laws 𝓣) callee κs.0 κs.1.0 κs.1.1.0 qs.0 qs.1.0 qs.1.1.0 z.0.2.0 within
    a.1.0.ref_ptr.0 a.1.0.ref_ptr.1 a.1.0.now a.0 vss.0 vss.1.0)))

pub free_spec : {M : Type 1} → stated.statement M
unfolding tables_of
free_spec 𝓤 𝓛 𝓜 𝓡 wired X W LX LW g d dd met md =
    let E : El = record { row = X; laws = LX } in
    let Z : Al = record { row = W; laws = LW; g = g; d = d; drops = dd } in
    let 𝓣 : Tables 𝓤 𝓛.H = tables_of 𝓤 𝓛.H 𝓜 (tables 𝓤 𝓛.H 𝓜 𝓡 𝓡.env) in
    entered 𝓤 𝓛.H (triple_of 𝓛 (ended E Z).signature (F.spec X W g d dd 𝓛 𝓜.mem 𝓡.returns)) 𝓣.C 𝓣.Λ (#self (args E Z)) (function E Z)
    (code.unfolded 𝓤 𝓛.H 𝓜 𝓡 wired (X, (W, tt)) d dd)
    (meets E Z 𝓛 𝓜.mem 𝓡.returns 𝓣 (met.deallocate dd))
