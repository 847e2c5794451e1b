-- `whole_mut` lends one block, and the owner of the places follows it. Assumes `Logic`.
use Rattle.fi_parts.proofs.RawWalks.{◌$◌, ◌++◌, ◌+◌, ◌^◌, ◌∙◌, ◌∵◌, ◌∷◌, ◌≡◌, ◌⊑◌, ◌⊛◌, !, Borrowed, Env, Fml, Fn, Goes-dropped, InBlock}
use Rattle.fi_parts.proofs.RawWalks.{IsSome, Item, List, Logic, MutRef, Ptr, RattleType, SProp, Stays, Ura, Val, WpFn, [], addr, after}
use Rattle.fi_parts.proofs.RawWalks.{alloc_all, ap, at_ret, await, bare, block_ptr, blocks, by, count_of, done, emp, ends_at, ent, enter}
use Rattle.fi_parts.proofs.RawWalks.{env, exec, fact, fact_i, fat, fbor, feq_l, first, fjoin, fld, flft, flt_i, flt_l, fobs, fpack, frame}
use Rattle.fi_parts.proofs.RawWalks.{free_all, from, fsplit, fsplit3, ftrue, full_share, get, give_at, group, heard, hop, id⊢, in_a_block}
use Rattle.fi_parts.proofs.RawWalks.{inst_fn, join, keep, later, layout, lies_at, lone, look_at, look_in_at, mem, move, named, never, no}
use Rattle.fi_parts.proofs.RawWalks.{nothing, of_opd, opens, owns, part_at, pass_all, pick, plain, proved_at, qed, raw, refl, returns}
use Rattle.fi_parts.proofs.RawWalks.{rewrite, sem, sep, sets, sets_last, split, stay_dropped, stop, sub, subst, suffices, sym, tables}
use Rattle.fi_parts.proofs.RawWalks.{take_at, use0, use1, use2, vptr, walk_of, whole, word, word-Good, ‵, ℕ, ⋆}
use base.Fml.{GName, fsep}
use types.Kit.{split3}
use types.Kit as kit
use denote.Memory.{cell_at, part_of}
use denote.Ref.{MutBor}
use denote.Follow.{follows, Part, lends_Part}
use denote.Signature.{mut_ref_to}
use denote.Triple.Walked.{Goes-spent_ref}
use Rattle.std.specs.Prelude.{Some}
use Rattle.fi_parts.specs.Placed.{at_ptr, IsAddress}
use Rattle.fi_parts.specs.BlockOwner.{times, token, block_owns, blocks_own, vacancies_own, deeds_own, IsShared}
use Rattle.fi_parts.specs.BlockLending.{with_place}
use Rattle.fi_parts.proofs.Placed.{Cut, cut_at, some_of}
use Rattle.fi_parts.proofs.BlockCounts.{times_with}
use Rattle.fi_parts.proofs.BlockMemory.{args, B, P, R, Mark, word_had, own_cut, own_glue, all_out, all_in}
use Rattle.fi_parts.specs.contracts.blocks.places.BlockPlaces.whole_mut.{ended, clauses}
use Rattle.fi_parts.specs.contracts.blocks.places.BlockPlaces.whole_mut.Key.{name as #self}
use Rattle.fi_parts.proofs.blocks.places.BlockPlaces.whole_mut.Statement.{statement}
use Rattle.fi_parts.proofs.blocks.places.BlockPlaces.whole_mut.Code as code

module _ (T : RattleType) {M : Type 1} {𝓤 : Ura M} (𝓛 : Logic 𝓤) (rb ro : ℕ) (d : (R T).Denot) (p : Ptr) (b : (B T).Denot)
    (found : at_ptr d.blocks p ≡ Some b) (shared : IsShared (B T) d.blocks d.vacant d.chunks) (vs : List Val) (pb po : ℕ) where
  abbrev cut : Cut d.blocks p b
  cut = cut_at d.blocks p b found

  -- all but the block
  abbrev Rest : Fml
  Rest = fsep (token (bare (lone (B T).mir)) p) (fsep (blocks_own (B T) (cut.front ++ cut.back))
      (fsep (fsep (vacancies_own (B T) d.vacant) (deeds_own (B T) d.chunks))
      (fsep ((Mark T).own_val (tt, tt) vs) (cell_at full_share (R T).mir vs rb ro))))

  back : p ≡ block_ptr pb po → (w : (B T).Denot) → ent 𝓤 (sep 𝓤 (sem 𝓛 ((mem (B T)).own_at w pb po)) (sem 𝓛 Rest))
      (sem 𝓛 ((mem (R T)).own_at (with_place d p w) rb ro))
  unfolding part_of
  back at w =
      let still : IsShared (B T) (with_place d p w).blocks d.vacant d.chunks =
      λ q. ap (λ n. n + times q d.vacant) (times_with q p d.blocks b w found) ∙ shared q in
      qed 𝓛 (‵ (part_at (B T) full_share w pb po) ∷ ‵ Rest ∷ []) ∵ rewrite ! 0 (λ (s : Ptr). ‵ (lies_at (B T) full_share s w)) (sym at)
      refl $
      move ! (1 ∷ []) $ fsplit3 ! $ move ! (2 ∷ []) $ fsplit3 ! $ fsplit ! $ move ! (6 ∷ 4 ∷ []) $ fjoin ! $
      move ! (0 ∷ 5 ∷ []) $
      use2 𝓛 (‵ (blocks_own (B T) (cut.front ++ (p, w) ∷ cut.back))) (own_glue 𝓛 (block_owns (B T)) cut.front (p, w) cut.back) $
      rewrite ! 0 (λ (bs : List (Ptr × (B T).Denot)). ‵ (blocks_own (B T) bs)) (sym (cut.set w)) refl $
      all_in (B T) (with_place d p w).blocks d.vacant d.chunks ! still $
      move ! (1 ∷ 0 ∷ []) $ fjoin ! $ move ! (1 ∷ 0 ∷ []) $ fjoin ! $
      fpack ! (List Val) (λ us. fsep (cell_at full_share (R T).mir us rb ro) ((R T).own_val (with_place d p w) us)) vs $ done !

pub whole_mut_spec : {M : Type 1} → statement M
whole_mut_spec 𝓤 𝓛 𝓜 𝓡 wired T L =
    let H = 𝓛.H in let 𝓣 = tables 𝓤 H 𝓜 𝓡 𝓡.env in
    let En = ended T in let c = clauses T 𝓛 𝓜.mem 𝓡.returns in
    let fn : Fn = inst_fn (args T) code.function in
    let hs : Stays En.signature.params En.kept = (
      stay_dropped (mut_ref_to (0 ∷ []) tt (plain (λ _. R T))) no,
      (stay_dropped (plain (λ _. P T)) no, tt),
    ) in
    proved_at 𝓛 En hs c 𝓜 𝓡 (
      Goes-spent_ref 𝓛 2 (0 ∷ []) tt (plain (λ _. R T)),
      (Goes-dropped 𝓛 2 (plain (λ _. P T)) no (λ κs x f. refl), tt),
    )
    (#self (args T)) fn (code.unfolded 𝓤 H 𝓜 𝓡 wired (T, tt)) (λ z are.
    let κ = z.0.0.0 in let q = z.0.1.0 in let ϑ = z.0.0.1.0 in let r = z.0.1.1.0 in
    let d = z.0.3.0.now in let p : Ptr = z.0.3.1.0.ptr in let rb = z.0.3.0.ref_ptr.0 in
    let ro = z.0.3.0.ref_ptr.1 in let γ =
    z.0.3.0.ghost_name in
    let us = z.0.4.0 in let ws = z.0.4.1.0 in
    let Post : Val → SProp 𝓤 = (walk_of 𝓛 En hs c).post z in
    let toks : Item 𝓤 = ‵ (flft κ q) ⊛ ‵ (flft ϑ r) ⊛ ‵ ftrue in
    let code_d = (R T).coded.code d in
    qed 𝓛 ((toks ⊛ ‵ (owns (MutRef (named 0) κ (R T) ∷ P T ∷ []) z.0.3 z.0.4)) ∷ raw (fact 𝓤 (ϑ ⊑ T.lives)) ∷ raw
    (fact 𝓤 (IsSome (at_ptr d.blocks p))) ∷ []) ∵
    move ! (2 ∷ []) $ heard ! _ (λ there. let found = some_of (at_ptr d.blocks p) there in let b =
    found.0 in let cut : Cut d.blocks p b = cut_at d.blocks p b found.1 in
    split ! $ split ! $ move ! (2 ∷ []) $ fsplit ! $ fsplit3 ! $ feq_l ! (λ e0. move ! (2 ∷ []) $ fsplit ! $
    word_had ! p ws (λ e1.
    -- [nothing; what is observed; the borrow; the token; the other tokens; the bound]
    let Had : List (Item 𝓤) = ‵ (fobs γ code_d) ∷ ‵ (fbor κ (Borrowed (mem (R T)) rb ro γ)) ∷ ‵ (flft κ q) ∷ (‵ (flft ϑ r) ⊛ ‵ ftrue) ∷
    [] in
    keep ! (1 ∷ 2 ∷ 3 ∷ 4 ∷ []) $
    by ! (subst (λ (xs : List Val × List Val). ent 𝓤 (⋆ 𝓛 Had) (WpFn 𝓤 H 𝓣.C 𝓣.Λ fn (xs.0 ++ (xs.1 ++ [])) Post))
    (λ j. (sym e0 j, sym e1 j)) (
    qed 𝓛 Had ∵ enter ! 𝓣.C 𝓣.Λ fn (vptr rb ro ∷ word p ∷ []) _ $
    alloc_all ! (λ l. pass_all ! refl ((tt, tt), (word-Good [] p, tt)) $
    let Ev : Env 𝓤 H = env fn.locals l in
    opens ! tt (R T) {h = d} rb ro (λ vs. move ! (1 ∷ []) $ fsplit ! $ move ! (1 ∷ []) $
    all_out (B T) d.blocks d.vacant d.chunks ! (λ shared.
    rewrite ! 0 (λ (bs : List (Ptr × (B T).Denot)). ‵ (blocks_own (B T) bs)) cut.is refl $
    use1 𝓛 (‵ (block_owns (B T) (p, b)) ⊛ ‵ (blocks_own (B T) (cut.front ++ cut.back)))
    (own_cut 𝓛 (block_owns (B T)) cut.front (p, b) cut.back) $ split ! $ fsplit ! $
    move ! (1 ∷ []) $ flt_l ! (λ testable. flt_i ! (count_of p) (2 ^ 63) testable $ move ! (1 ∷ 0 ∷ []) $
    in_a_block ! p (λ s. lies_at (B T) full_share s b) (id⊢ 𝓤 (never 𝓤)) (λ pb po e.
    let here : IsAddress p = record { in_block = subst InBlock (sym e) tt; testable = testable } in
    let way = back T 𝓛 rb ro d p b found.1 shared vs pb po e in
    let rest : SProp 𝓤 = sem 𝓛 (Rest T 𝓛 rb ro d p b found.1 shared vs pb po) in
    -- [the block; its token; the other blocks; the vacant places; the rights to free; the mark; its cell; the open
    -- borrow; obs; auth]
    take_at ! 2 $ rewrite ! 0 (λ (s : Ptr). ‵ (fat full_share (layout (P T)) (l 2) 0 (word s))) e refl $ give_at ! 2 $
    first ! $ blocks ! $ sets_last ! (addr ! (from ! (fld ! refl (hop ! (look_in_at ! 2 (sub ! 0 refl (whole !))) (stop !))))) refl
    (tt, tt) $
    exec ! 𝓣.C 𝓣.Λ Ev (after 1 fn.body) (at_ret Ev Post) $ sets ! (of_opd ! (get ! refl)) refl (tt, tt) $
    move ! (5 ∷ 6 ∷ []) $ fjoin ! $ move ! (4 ∷ 5 ∷ []) $ fjoin ! $ fjoin ! $ move ! (3 ∷ 0 ∷ []) $ fjoin ! $
    move ! (2 ∷ 0 ∷ []) $ fjoin ! $
    move ! (2 ∷ 3 ∷ 4 ∷ 1 ∷ 0 ∷ []) $ group ! 5 $
    use1 𝓛 (later (kit.some (λ (δ : GName). raw (Part 𝓛 (R T) (B T) (with_place d p) (named 0) κ q rb ro pb po γ rest way b δ))))
    (lends_Part 𝓛 (R T) (B T) (with_place d p) (named 0) κ q rb ro pb po γ rest way code_d code_d b) $ await ! tt $
    pick ! (λ δ.
    returns ! (look_at ! 0 refl) $ free_all ! refl $
    let lent : MutBor (B T).Denot = record { ref_ptr = (pb, po); ghost_name = δ; now = b } in
    use1 𝓛 (‵ ((MutRef (named 0) κ (B T)).own_val lent (vptr pb po ∷ [])) ⊛ ‵ (flft κ q) ⊛ ‵ (follows (R T) (B T) γ δ (with_place d p)))
    (id⊢ 𝓤 _) $ split3 ! $
    suffices ! _ (ends_at 𝓛 En hs c z (vptr pb po) lent (tt, (tt, tt)) (tt, (tt, tt))) $
    nothing ! $ nothing ! $ fjoin ! $ nothing ! $ fjoin ! $ join ! $ move ! (1 ∷ 3 ∷ []) $ join ! $ join ! $
    frame ! $ use0 𝓛
    (raw (fact 𝓤 (IsAddress p))) (fact_i 𝓤 _ (emp 𝓤) here) $ use0 𝓛 (raw (fact 𝓤 (at_ptr d.blocks p ≡ Some b)))
    (fact_i 𝓤 _ (emp 𝓤) found.1) $ move ! (2 ∷ 0 ∷ 1 ∷ []) $ group ! 3 $ done !)))))))))))
    )
