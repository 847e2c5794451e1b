-- `put` writes a block into a vacant place. Assumes `Logic`.
use Rattle.fi_parts.proofs.RawWalks.{◌$◌, ◌++◌, ◌∵◌, ◌∷◌, ◌≡◌, ◌⊑◌, ◌⊛◌, !, Borrowed, Fn, Goes-blank, Goes-dropped, Goes-ref, IsSome, Item}
use Rattle.fi_parts.proofs.RawWalks.{Laws, List, MutRef, None, Ptr, SProp, Stays, Ty, Val, WpFn, [], after, alloc_all, as_written, at_ret}
use Rattle.fi_parts.proofs.RawWalks.{bare, blocks, by, closes, emp, ent, enter, env, exec, fact, fact_i, fat, fbor, feq_i, feq_l, first}
use Rattle.fi_parts.proofs.RawWalks.{fjoin, fjoin3, fld, flft, fobs, free_all, fsplit, fsplit3, ftrue, full_share, get, get_in, give_at}
use Rattle.fi_parts.proofs.RawWalks.{group, heard, id⊢, in_a_block, inst_fn, join, keep, layout, leaves, lies_at, lone, look_at, mem, move}
use Rattle.fi_parts.proofs.RawWalks.{named, never, no, nothing, of_opd, opens, owns, param, param_laws, part_at, pass_all, plain, proved_at}
use Rattle.fi_parts.proofs.RawWalks.{qed, raw, refl, returns, rewrite, room_for, sets, split, stay_dropped, stay_ref, stop, sub, subst, sym}
use Rattle.fi_parts.proofs.RawWalks.{tables, take_at, through, unit_lit, use0, use1, use2, vptr, vunit, walk_of, whole, word, word-Good, ‵}
use Rattle.fi_parts.proofs.RawWalks.{⋆}
use types.Run.{init, assigns_last}
use borrow.Table.OneValue.{part_in}
use Rattle.circular_buffer.proofs.Memory.{tells}
use Rattle.fi_parts.specs.Placed.{at_ptr, without_at}
use Rattle.fi_parts.specs.BlockOwner.{vacancy, vacancies_own, IsShared, all_places, times}
use Rattle.fi_parts.specs.declared.blocks.places.BlockPlaces.{BlockPlaces}
use Rattle.fi_parts.proofs.blocks.block.Block.TheLaws.{the_row_laws}
use Rattle.fi_parts.proofs.Placed.{Cut, cut_at, some_of}
use Rattle.fi_parts.proofs.BlockCounts.{times_moved}
use Rattle.fi_parts.proofs.BlockFresh.{fresh, knows}
use Rattle.fi_parts.proofs.BlockMemory.{args, B, P, R, word_had, own_cut, all_out, all_in}
use Rattle.fi_parts.specs.contracts.blocks.places.BlockPlaces.put.{ended, clauses}
use Rattle.fi_parts.specs.contracts.blocks.places.BlockPlaces.put.Key.{name as #self}
use Rattle.fi_parts.proofs.blocks.places.BlockPlaces.put.Statement.{statement}
use Rattle.fi_parts.proofs.blocks.places.BlockPlaces.put.Code as code

pub put_spec : {M : Type 1} → statement M
put_spec 𝓤 𝓛 𝓜 𝓡 wired T L =
    let H = 𝓛.H in let 𝓣 = tables 𝓤 H 𝓜 𝓡 𝓡.env in
    let En = ended T in let c = clauses T 𝓛 𝓜.mem 𝓡.returns in
    let fn : Fn = inst_fn (args T) code.function in
    let LB : Laws (B T) = the_row_laws (param 0 T) (param_laws 0 T L) in
    let hs : Stays En.signature.params En.kept = (
      stay_ref (0 ∷ []) tt (plain (λ _. R T)),
      (stay_dropped (plain (λ _. P T)) no, (stay_dropped (plain (λ _. B T)) no, tt)),
    ) in
    proved_at 𝓛 En hs c 𝓜 𝓡 (
      Goes-ref 𝓛 2 0 tt (plain (λ _. R T)),
      (Goes-dropped 𝓛 2 (plain (λ _. P T)) no (λ κs x f. refl), (Goes-blank 𝓛 2 (plain (λ _. B T)) no (λ κs x f. tt), tt)),
    )
    (#self (args T)) fn (code.unfolded 𝓤 H 𝓜 𝓡 wired (T, tt)) (λ z are.
    let κ = z.0.0.0 in let q = z.0.1.0 in let ϑ = z.0.0.1.0 in let r = z.0.1.1.0 in
    let d = z.0.3.0.now in let p : Ptr = z.0.3.1.0.ptr in let x : (B T).Denot = z.0.3.1.1.0 in
    let rb = z.0.3.0.ref_ptr.0 in let ro =
    z.0.3.0.ref_ptr.1 in let γ = z.0.3.0.ghost_name in
    let us = z.0.4.0 in let ws = z.0.4.1.0 in let xs = z.0.4.1.1.0 in
    let Post : Val → SProp 𝓤 = (walk_of 𝓛 En hs c).post z in let τ : Ty = lone (B T).mir in
    let toks : Item 𝓤 = ‵ (flft ϑ r) ⊛ ‵ ftrue in
    qed 𝓛 (((‵ (flft κ q) ⊛ toks) ⊛ ‵ (owns (MutRef (named 0) κ (R T) ∷ P T ∷ B T ∷ []) z.0.3 z.0.4)) ∷ raw (fact 𝓤 (ϑ ⊑ T.lives)) ∷ raw
    (fact 𝓤 (IsSome (at_ptr d.vacant p))) ∷ []) ∵
    move ! (2 ∷ []) $ heard ! _ (λ there. let found = some_of (at_ptr d.vacant p) there in
    let cut : Cut d.vacant p found.0 = cut_at d.vacant p found.0 found.1 in
    split ! $ split ! $ move ! (2 ∷ []) $ fsplit ! $ fsplit3 ! $ feq_l !
    (λ e0. move ! (2 ∷ []) $ fsplit ! $ word_had ! p ws (λ e1. fsplit ! $ tells (B T) LB ! x xs (λ v e2 good.
    -- [what the block owns; nothing; what is observed; the borrow; the token; the other tokens; ..]
    let Had : List (Item 𝓤) = ‵ ((B T).own_val x (v ∷ [])) ∷ ‵ (fobs γ ((R T).coded.code d)) ∷ ‵ (fbor κ (Borrowed (mem (R T)) rb ro γ)) ∷ ‵
    (flft κ q) ∷ toks ∷ [] in
    keep ! (0 ∷ 2 ∷ 3 ∷ 4 ∷ 5 ∷ []) $
    by ! (subst (λ (ls : List Val × (List Val × List Val)). ent 𝓤 (⋆ 𝓛 Had)
    (WpFn 𝓤 H 𝓣.C 𝓣.Λ fn (ls.0 ++ (ls.1.0 ++ (ls.1.1 ++ []))) Post)) (λ j. (sym e0 j, (sym e1 j, sym e2 j))) (
    qed 𝓛 Had ∵ enter ! 𝓣.C 𝓣.Λ fn (vptr rb ro ∷ word p ∷ v ∷ []) _ $ alloc_all !
    (λ l. pass_all ! refl ((tt, tt), (word-Good [] p, (good, tt))) $ let Ev = env fn.locals l in
    move ! (1 ∷ 2 ∷ 3 ∷ []) $ opens ! tt (R T) {h = d} rb ro (λ vs. move ! (1 ∷ []) $ fsplit ! $ move ! (1 ∷ []) $
    all_out (B T) d.blocks d.vacant d.chunks ! (λ shared. move ! (1 ∷ []) $
    rewrite ! 0 (λ (os : List (Ptr × Unit {0})). ‵ (vacancies_own (B T) os)) cut.is refl $
    use1 𝓛 (‵ (vacancy (B T) (p, found.0)) ⊛ ‵ (vacancies_own (B T) (cut.front ++ cut.back)))
    (own_cut 𝓛 (vacancy (B T)) cut.front (p, found.0) cut.back) $ split ! $ fsplit ! $
    in_a_block ! p (λ s. room_for (bare τ) s) (id⊢ 𝓤 (never 𝓤)) (λ pb po e. as_written ! τ pb po $
    -- [the room; that it may be tested; the other vacant places; the blocks; the rights; the mark; the cell; the open
    -- borrow
    -- in three; what the block owns; the tokens]
    take_at ! 2 $ rewrite ! 0 (λ (s : Ptr). ‵ (fat full_share (layout (P T)) (l 2) 0 (word s))) e refl $ give_at ! 2 $
    sets ! (of_opd ! (get_in ! (fld ! refl (stop !)) (sub ! 0 refl (whole !)))) refl (tt, tt) $
    first ! $ blocks ! $ sets ! (of_opd ! (get ! refl)) refl good $
    assigns_last ! (of_opd ! (get ! refl)) (through ! refl (stop !)) (init ! 0 refl good) $
    exec ! 𝓣.C 𝓣.Λ Ev (after 2 fn.body) (at_ret Ev Post) $ sets ! (of_opd ! (unit_lit !)) refl (tt, tt) $
    move ! (0 ∷ 10 ∷ []) $ use2 𝓛 (‵ (part_at (B T) full_share x pb po)) (part_in 𝓛 (B T) refl full_share x pb po v) $
    rewrite ! 0 (λ (s : Ptr). ‵ (lies_at (B T) full_share s x)) (sym e) refl $ move ! (0 ∷ 3 ∷ []) $
    knows ! (at_ptr d.blocks p ≡ None) (fresh T 𝓛 𝓜 p x d.blocks) (λ new.
    let h' : BlockPlaces T.Denot = record d { blocks = (p, x) ∷ d.blocks; vacant = without_at d.vacant p } in
    let still : IsShared (B T) h'.blocks h'.vacant d.chunks =
    λ s. times_moved d.blocks d.vacant p x found.0 (times s (all_places (B T) d.chunks)) s found.1 (shared s) in
    move ! (0 ∷ 2 ∷ []) $ fjoin ! $ fjoin ! $ move ! (1 ∷ []) $
    rewrite ! 0 (λ (os : List (Ptr × Unit {0})). ‵ (vacancies_own (B T) os)) (sym cut.gone) refl $
    move ! (1 ∷ 0 ∷ 2 ∷ []) $
    all_in (B T) h'.blocks h'.vacant d.chunks ! still $ move ! (1 ∷ 0 ∷ []) $ fjoin ! $ move ! (1 ∷ 0 ∷ []) $
    closes ! tt (R T) h' vs rb ro $
    feq_i ! (List Val) us (vptr rb ro ∷ []) e0 $ fjoin3 ! $
    nothing ! $ nothing ! $ fjoin ! $ nothing ! $ fjoin ! $ move ! (1 ∷ 0 ∷ []) $ fjoin ! $
    feq_i ! (List Val) (vunit ∷ []) (vunit ∷ []) refl $
    use0 𝓛 (raw (fact 𝓤 (h'.chunks ≡ d.chunks))) (fact_i 𝓤 _ (emp 𝓤) refl) $
    use0 𝓛 (raw (fact 𝓤 (h'.vacant ≡ without_at d.vacant p))) (fact_i 𝓤 _ (emp 𝓤) refl) $
    use0 𝓛 (raw (fact 𝓤 (h'.blocks ≡ (p, x) ∷ d.blocks))) (fact_i 𝓤 _ (emp 𝓤) refl) $
    use0 𝓛 (raw (fact 𝓤 (at_ptr d.blocks p ≡ None))) (fact_i 𝓤 _ (emp 𝓤) new) $ group ! 4 $
    returns ! (look_at ! 0 refl) $ free_all ! refl $ move ! (3 ∷ 4 ∷ []) $ join ! $ keep ! (0 ∷ 3 ∷ 2 ∷ 1 ∷ []) $
    by ! (leaves 𝓛 En hs c z vunit tt (h', (tt, ((tt, ((tt, (tt, tt)), tt)), tt))) (tt, (tt, (tt, tt))))))))))))))))
