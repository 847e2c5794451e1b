-- `take` reads a block, and leaves its place vacant. Assumes `Logic`.
use Rattle.fi_parts.proofs.RawWalks.{◌$◌, ◌++◌, ◌∵◌, ◌∷◌, ◌≡◌, ◌⊑◌, ◌⊛◌, !, Borrowed, Fn, Goes-dropped, Goes-ref, IsSome, Item, Laws, List}
use Rattle.fi_parts.proofs.RawWalks.{MutRef, None, Ptr, SProp, Stays, Ty, Val, WT, WpFn, [], after, alloc_all, as_raw, at_ret, bare, blocks}
use Rattle.fi_parts.proofs.RawWalks.{by, closes, emp, ent, enter, env, exec, fact, fact_i, fat, fbor, feq_i, feq_l, first, fjoin, fjoin3}
use Rattle.fi_parts.proofs.RawWalks.{fld, flft, fobs, free_all, froom, fsplit, fsplit3, ftrue, full_share, get, get_in, give_at, given}
use Rattle.fi_parts.proofs.RawWalks.{group, has_ty, heard, id⊢, in_a_block, inst_fn, join, keep, layout, learn, leaves, lies_at, lone}
use Rattle.fi_parts.proofs.RawWalks.{look_at, mem, move, named, never, no, nothing, of_opd, opens, owns, param, param_laws, part_out}
use Rattle.fi_parts.proofs.RawWalks.{pass_all, pick, plain, proved_at, qed, raw, refl, returns, rewrite, room_for, sets, sets_last, some}
use Rattle.fi_parts.proofs.RawWalks.{split, stay_dropped, stay_ref, stop, sub, subst, sym, tables, take_at, through, use0, use1, vptr}
use Rattle.fi_parts.proofs.RawWalks.{walk_of, whole, word, word-Good, ‵, ⋆}
use types.Run.{look, load}
use Rattle.std.proofs.Common.{Some}
use lib.Dec.{T as T'}
use Rattle.fi_parts.specs.Placed.{at_ptr, without_at}
use Rattle.fi_parts.specs.BlockOwner.{block_owns, blocks_own, IsShared, all_places, times}
use Rattle.fi_parts.specs.declared.blocks.places.BlockPlaces.{BlockPlaces}
use Rattle.fi_parts.proofs.blocks.block.Block.TheLaws.{the_row_laws}
use Rattle.fi_parts.proofs.Placed.{Cut, cut_at, some_of}
use Rattle.fi_parts.proofs.BlockCounts.{times_vacated}
use Rattle.fi_parts.proofs.BlockFresh.{fresh, knows}
use Rattle.fi_parts.proofs.BlockMemory.{args, B, P, R, word_had, own_cut, all_out, all_in}
use Rattle.fi_parts.specs.contracts.blocks.places.BlockPlaces.take.{ended, clauses}
use Rattle.fi_parts.specs.contracts.blocks.places.BlockPlaces.take.Key.{name as #self}
use Rattle.fi_parts.proofs.blocks.places.BlockPlaces.take.Statement.{statement}
use Rattle.fi_parts.proofs.blocks.places.BlockPlaces.take.Code as code

pub take_spec : {M : Type 1} → statement M
take_spec 𝓤 𝓛 𝓜 𝓡 wired T L =
    let H = 𝓛.H in let 𝓣 = tables 𝓤 H 𝓜 𝓡 𝓡.env in
    let En = ended T in let c = clauses T 𝓛 𝓜.mem 𝓡.returns in
    let fn : Fn = inst_fn (args T) code.function in
    let LB : Laws (B T) = the_row_laws (param 0 T) (param_laws 0 T L) in
    let hs : Stays En.signature.params En.kept = (stay_ref (0 ∷ []) tt (plain (λ _. R T)), (stay_dropped (plain (λ _. P T)) no, tt)) in
    proved_at 𝓛 En hs c 𝓜 𝓡 (Goes-ref 𝓛 2 0 tt (plain (λ _. R T)), (Goes-dropped 𝓛 2 (plain (λ _. P T)) no (λ κs x f. refl), tt))
    (#self (args T)) fn (code.unfolded 𝓤 H 𝓜 𝓡 wired (T, tt)) (λ z are.
    let κ = z.0.0.0 in let q = z.0.1.0 in let ϑ = z.0.0.1.0 in let r = z.0.1.1.0 in
    let d = z.0.3.0.now in let p : Ptr = z.0.3.1.0.ptr in let rb = z.0.3.0.ref_ptr.0 in let ro = z.0.3.0.ref_ptr.1 in
    let γ = z.0.3.0.ghost_name in let us = z.0.4.0 in let ws = z.0.4.1.0 in
    let Post : Val → SProp 𝓤 = (walk_of 𝓛 En hs c).post z in let τ : Ty = lone (B T).mir in
    let toks : Item 𝓤 = ‵ (flft ϑ r) ⊛ ‵ ftrue in
    qed 𝓛 (((‵ (flft κ q) ⊛ toks) ⊛ ‵ (owns (MutRef (named 0) κ (R T) ∷ P T ∷ []) z.0.3 z.0.4)) ∷ raw (fact 𝓤 (ϑ ⊑ T.lives)) ∷ raw
    (fact 𝓤 (IsSome (at_ptr d.blocks p))) ∷ []) ∵
    move ! (2 ∷ []) $ heard ! _ (λ there. let found = some_of (at_ptr d.blocks p) there in
    let x : (B T).Denot = found.0 in
    let cut : Cut d.blocks p x = cut_at d.blocks p x found.1 in
    split ! $ split ! $ move ! (2 ∷ []) $ fsplit ! $ fsplit3 ! $ feq_l !
    (λ e0. move ! (2 ∷ []) $ fsplit ! $ word_had ! p ws (λ e1.
    -- [nothing; what is observed; the borrow; the token; the other tokens; ..]
    let Had : List (Item 𝓤) = ‵ (fobs γ ((R T).coded.code d)) ∷ ‵ (fbor κ (Borrowed (mem (R T)) rb ro γ)) ∷ ‵ (flft κ q) ∷ toks ∷ [] in
    keep ! (1 ∷ 2 ∷ 3 ∷ 4 ∷ []) $
    by ! (subst (λ (ls : List Val × List Val). ent 𝓤 (⋆ 𝓛 Had) (WpFn 𝓤 H 𝓣.C 𝓣.Λ fn (ls.0 ++ (ls.1 ++ [])) Post))
    (λ j. (sym e0 j, sym e1 j)) (
    qed 𝓛 Had ∵ enter ! 𝓣.C 𝓣.Λ fn (vptr rb ro ∷ word p ∷ []) _ $ alloc_all !
    (λ l. pass_all ! refl ((tt, tt), (word-Good [] p, tt)) $ let Ev = env fn.locals l in
    opens ! tt (R T) {h = d} rb ro (λ vs. move ! (1 ∷ []) $ fsplit ! $ move ! (1 ∷ []) $
    all_out (B T) d.blocks d.vacant d.chunks ! (λ shared.
    rewrite ! 0 (λ (bs : List (Ptr × (B T).Denot)). ‵ (blocks_own (B T) bs)) cut.is refl $
    use1 𝓛 (‵ (block_owns (B T) (p, x)) ⊛ ‵ (blocks_own (B T) (cut.front ++ cut.back)))
    (own_cut 𝓛 (block_owns (B T)) cut.front (p, x) cut.back) $ split ! $ fsplit ! $ move ! (2 ∷ []) $
    rewrite ! 0 (λ (bs : List (Ptr × (B T).Denot)). ‵ (blocks_own (B T) bs)) (sym cut.gone) refl $ move ! (1 ∷ 0 ∷ []) $
    knows ! (at_ptr (without_at d.blocks p) p ≡ None) (fresh T 𝓛 𝓜 p x (without_at d.blocks p)) (λ gone.
    in_a_block ! p (λ s. lies_at (B T) full_share s x) (id⊢ 𝓤 (never 𝓤)) (λ pb po e.
    use1 𝓛 (some (λ (v : Val). ‵ (fat full_share τ pb po v) ⊛ ‵ ((B T).own_val x (v ∷ []))))
    (part_out 𝓛 (B T) refl full_share x pb po) $ pick ! (λ v. split ! $
    use1 𝓛 (given (T' (has_ty τ v) × WT v) (‵ (fat full_share τ pb po v))) (𝓛.laws.at_wt full_share τ pb po v) $
    learn ! (λ good.
    -- [the value; what it owns; the other blocks; that the place may be tested; the vacant places; the rights; the
    -- mark; the
    -- cell; the open borrow in three; the tokens]
    take_at ! 2 $ rewrite ! 0 (λ (s : Ptr). ‵ (fat full_share (layout (P T)) (l 2) 0 (word s))) e refl $ give_at ! 2 $
    sets ! (of_opd ! (get_in ! (fld ! refl (stop !)) (sub ! 0 refl (whole !)))) refl (tt, tt) $
    first ! $ blocks ! $ sets_last ! (of_opd ! (load ! (through ! refl (stop !)) (look ! 0 refl))) refl good $
    exec ! 𝓣.C 𝓣.Λ Ev (after 2 fn.body) (at_ret Ev Post) $ sets ! (of_opd ! (get ! refl)) refl good $
    use1 𝓛 (‵ (froom τ pb po)) (𝓛.laws.at_room τ pb po v) $ as_raw ! τ pb po $
    rewrite ! 0 (λ (s : Ptr). ‵ (room_for (bare τ) s)) (sym e) refl $
    let h' : BlockPlaces T.Denot = record d { blocks = without_at d.blocks p; vacant = (p, tt) ∷ d.vacant } in
    let still : IsShared (B T) h'.blocks h'.vacant d.chunks =
    λ s. times_vacated d.blocks d.vacant p x tt (times s (all_places (B T) d.chunks)) s found.1 (shared s) in
    move ! (0 ∷ 3 ∷ []) $ fjoin ! $ move ! (0 ∷ 3 ∷ []) $ fjoin ! $ move ! (2 ∷ 0 ∷ 3 ∷ []) $
    all_in (B T) h'.blocks h'.vacant d.chunks ! still $ move ! (2 ∷ 0 ∷ []) $ fjoin ! $
    move ! (2 ∷ 0 ∷ 3 ∷ 4 ∷ 5 ∷ []) $
    closes ! tt (R T) h' vs rb ro $
    -- [two parts of self; the token; what the value owns; the other tokens]
    feq_i ! (List Val) us (vptr rb ro ∷ []) e0 $ fjoin3 ! $ nothing ! $ nothing ! $ fjoin ! $ move ! (1 ∷ 0 ∷ []) $
    fjoin ! $
    use0 𝓛 (raw (fact 𝓤 (h'.chunks ≡ d.chunks))) (fact_i 𝓤 _ (emp 𝓤) refl) $
    use0 𝓛 (raw (fact 𝓤 (h'.vacant ≡ (p, tt) ∷ d.vacant))) (fact_i 𝓤 _ (emp 𝓤) refl) $
    use0 𝓛 (raw (fact 𝓤 (at_ptr h'.blocks p ≡ None))) (fact_i 𝓤 _ (emp 𝓤) gone) $
    use0 𝓛 (raw (fact 𝓤 (h'.blocks ≡ without_at d.blocks p))) (fact_i 𝓤 _ (emp 𝓤) refl) $
    use0 𝓛 (raw (fact 𝓤 (at_ptr d.blocks p ≡ Some x))) (fact_i 𝓤 _ (emp 𝓤) found.1) $ group ! 5 $
    returns ! (look_at ! 0 refl) $ free_all ! refl $ move ! (2 ∷ 4 ∷ []) $ join ! $ keep ! (0 ∷ 2 ∷ 3 ∷ 1 ∷ []) $
    by ! (leaves 𝓛 En hs c z v x (h', (tt, tt)) (tt, (tt, tt))))))))))))))))
