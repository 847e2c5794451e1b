-- `remove` makes a chunk of the vacant places that were its own. Assumes `Logic`.
use Rattle.fi_parts.proofs.RawWalks.{◌$◌, ◌++◌, ◌∙◌, ◌∵◌, ◌∷◌, ◌≡◌, ◌⊑◌, ◌⊛◌, !, Borrowed, Fn, Goes-dropped, Goes-ref, Item, List, MutRef}
use Rattle.fi_parts.proofs.RawWalks.{Ptr, RattleType, SProp, Stays, Ty, Val, WpFn, [], agg, alloc_all, and_then, ap, arith, as_raw}
use Rattle.fi_parts.proofs.RawWalks.{block_ptr, by, closes, emp, ent, enter, fact, fact_i, fat, fbor, feq_i, feq_l, fjoin, fjoin3, fld}
use Rattle.fi_parts.proofs.RawWalks.{flft, flt_l, fobs, free_all, froom, fsplit, fsplit3, ftrue, full_share, get, get_in, ghosts, give_at}
use Rattle.fi_parts.proofs.RawWalks.{group, heard, id⊢, in_a_block, inst_fn, join, keep, layout, leaves, lone, look_at, mem, move, named}
use Rattle.fi_parts.proofs.RawWalks.{never, no, no_more, nothing, opens, owns, pass_all, plain, proved_at, qed, raw, refl, returns, rewrite}
use Rattle.fi_parts.proofs.RawWalks.{sets, split, stay_dropped, stay_ref, stop, sub, subst, sym, tables, take_at, ty_array, type_size, use0}
use Rattle.fi_parts.proofs.RawWalks.{use1, usize, vint, vptr, w64, walk_of, whole, word, word-Good, yes, ‵, ℕ, ⋆}
use lib.ListN.{drop}
use Rattle.std.specs.contracts.alloc.Global as Global
use Rattle.fi_parts.specs.BlockOwner.{global, heap_token, deed, deeds_own, vacancy, vacancies_own, IsShared, places}
use Rattle.fi_parts.specs.BlockOwner.{all_places, times}
use Rattle.fi_parts.specs.declared.blocks.places.BlockPlaces.{BlockPlaces}
use Rattle.fi_parts.proofs.BlockCounts.{times_nil}
use Rattle.fi_parts.proofs.ChunkRooms.{own_permuted, room_of_vacant}
use Rattle.fi_parts.proofs.ChunkSteps.{ChunkRow, chunk_val, chunk_good, chunk_made}
use Rattle.fi_parts.proofs.BlockMemory.{args, B, P, R, word_had, own_divide, all_out, all_in}
use Rattle.fi_parts.specs.contracts.blocks.places.BlockPlaces.remove.{ended, clauses}
use Rattle.fi_parts.specs.contracts.blocks.places.BlockPlaces.remove.Key.{name as #self}
use Rattle.fi_parts.proofs.blocks.places.BlockPlaces.remove.Statement.{statement}
use Rattle.fi_parts.proofs.blocks.places.BlockPlaces.remove.Code as code

pub remove_spec : {M : Type 1} → statement M
remove_spec 𝓤 𝓛 𝓜 𝓡 wired T L =
    let H = 𝓛.H in let 𝓣 = tables 𝓤 H 𝓜 𝓡 𝓡.env in
    let En = ended T in let c = clauses T 𝓛 𝓜.mem 𝓡.returns in
    let fn : Fn = inst_fn (args T) code.function in
    let C : RattleType = ChunkRow (B T) Global.the_row ghosts in
    let hs : Stays En.signature.params En.kept = (
      stay_ref (0 ∷ []) tt (plain (λ _. R T)),
      (stay_dropped (plain (λ _. P T)) no, (stay_dropped (plain (λ _. usize)) yes, tt)),
    ) in
    proved_at 𝓛 En hs c 𝓜 𝓡 (
      Goes-ref 𝓛 2 0 tt (plain (λ _. R T)),
      (Goes-dropped 𝓛 2 (plain (λ _. P T)) no (λ κs x f. refl), (Goes-dropped 𝓛 2 (plain (λ _. usize)) yes (λ κs x f. refl), tt)),
    )
    (#self (args T)) fn (code.unfolded 𝓤 H 𝓜 𝓡 wired (T, tt)) (λ z are.
    let κ = z.0.0.0 in let q = z.0.1.0 in let ϑ = z.0.0.1.0 in let r = z.0.1.1.0 in
    let d = z.0.3.0.now in let p : Ptr = z.0.3.1.0.ptr in let n : ℕ = z.0.3.1.1.0 in let rb = z.0.3.0.ref_ptr.0 in
    let ro = z.0.3.0.ref_ptr.1 in let γ = z.0.3.0.ghost_name in let us = z.0.4.0 in let ws = z.0.4.1.0 in
    let xs = z.0.4.1.1.0 in
    let Post : Val → SProp 𝓤 = (walk_of 𝓛 En hs c).post z in let τ : Ty = lone (B T).mir in
    let s : ℕ = type_size (B T) in
    let toks : Item 𝓤 = ‵ (flft ϑ r) ⊛ ‵ ftrue in let rest : List (Ptr × ℕ) = drop 1 d.chunks in
    qed 𝓛 (((‵ (flft κ q) ⊛ toks) ⊛ ‵ (owns (MutRef (named 0) κ (R T) ∷ P T ∷ usize ∷ []) z.0.3 z.0.4)) ∷ raw (fact 𝓤 (ϑ ⊑ T.lives)) ∷
    (raw (fact 𝓤 (d.blocks ≡ [])) ⊛ raw (fact 𝓤 (d.chunks ≡ (p, n) ∷ rest))) ∷ []) ∵
    move ! (2 ∷ []) $ split ! $ heard ! _ (λ empty. heard ! _ (λ last.
    split ! $ split ! $ move ! (2 ∷ []) $ fsplit ! $ fsplit3 ! $ feq_l !
    (λ e0. move ! (2 ∷ []) $ fsplit ! $ word_had ! p ws (λ e1. fsplit ! $ fsplit ! $ feq_l ! (λ e2. flt_l ! (λ small.
    -- [nothing; what is observed; the borrow; the token; the other tokens; ..]
    let Had : List (Item 𝓤) = ‵ (fobs γ ((R T).coded.code d)) ∷ ‵ (fbor κ (Borrowed (mem (R T)) rb ro γ)) ∷ ‵ (flft κ q) ∷ toks ∷ [] in
    keep ! (1 ∷ 2 ∷ 3 ∷ 4 ∷ []) $
    by ! (subst (λ (ls : List Val × (List Val × List Val)). ent 𝓤 (⋆ 𝓛 Had)
    (WpFn 𝓤 H 𝓣.C 𝓣.Λ fn (ls.0 ++ (ls.1.0 ++ (ls.1.1 ++ []))) Post)) (λ j. (sym e0 j, (sym e1 j, sym e2 j))) (
    qed 𝓛 Had ∵ enter ! 𝓣.C 𝓣.Λ fn (vptr rb ro ∷ word p ∷ vint w64 n ∷ []) _ $ alloc_all !
    (λ l. pass_all ! refl ((tt, tt), (word-Good [] p, ((tt, record { fits = small }), tt))) $
    opens ! tt (R T) {h = d} rb ro (λ vs. move ! (1 ∷ []) $ fsplit ! $ move ! (1 ∷ []) $
    all_out (B T) d.blocks d.vacant d.chunks ! (λ shared. move ! (2 ∷ []) $
    rewrite ! 0 (λ (ks : List (Ptr × ℕ)). ‵ (deeds_own (B T) ks)) last refl $ fsplit ! $
    in_a_block ! p (λ t. deed (B T) heap_token t n) (id⊢ 𝓤 (never 𝓤)) (λ b o e.
    -- [the right; the other rights; the blocks; the vacant places; the mark; the cell; the open borrow in three; the
    -- tokens]
    let t' : Ptr = block_ptr b o in
    let mine = places (B T) p n in let others = all_places (B T) rest in
    let all : (t : Ptr) → times t d.vacant ≡ times t (mine ++ others) =
    λ t. let none = ap (times t) empty ∙ times_nil (B T).Denot t in
    let old = shared t ∙ ap (λ ks. times t (all_places (B T) ks)) last in
    omega (arith, none, old) in
    move ! (3 ∷ []) $ use1 𝓛 (‵ (vacancies_own (B T) (mine ++ others))) (own_permuted 𝓛 (vacancy (B T)) d.vacant (mine ++ others) all) $
    use1 𝓛 (‵ (vacancies_own (B T) mine) ⊛ ‵ (vacancies_own (B T) others)) (own_divide 𝓛 (vacancy (B T)) mine others) $ split ! $
    rewrite ! 0 (λ (t : Ptr). ‵ (vacancies_own (B T) (places (B T) t n))) e refl $
    use1 𝓛 (‵ (froom (ty_array τ n) b o)) (room_of_vacant (B T) 𝓛 b n o) $ as_raw ! (ty_array τ n) b o $
    -- [the room; the vacant places; the right; the other rights; the blocks; the mark; ..]
    take_at ! 2 $ rewrite ! 0 (λ (t : Ptr). ‵ (fat full_share (layout (P T)) (l 2) 0 (word t))) e refl $ give_at ! 2 $
    sets ! (agg ! (no_more !)) refl (tt, tt) $
    sets ! (agg ! (and_then ! (get_in ! (fld ! refl (stop !)) (sub ! 0 refl (whole !))) (and_then ! (get ! refl) (and_then ! (get ! refl)
    (no_more !))))) refl (chunk_good (B T) Global.the_row ghosts b o n small) $
    let h' : BlockPlaces T.Denot = record d { vacant = others; chunks = rest } in
    let still : IsShared (B T) d.blocks others rest =
    λ t. let none = ap (times t) empty ∙ times_nil (B T).Denot t in omega (arith, none) in
    move ! (0 ∷ 2 ∷ []) $ fjoin ! $ move ! (3 ∷ 1 ∷ 2 ∷ []) $
    all_in (B T) d.blocks others rest ! still $ move ! (2 ∷ 0 ∷ []) $ fjoin ! $ move ! (2 ∷ 0 ∷ 3 ∷ 4 ∷ 5 ∷ []) $
    closes ! tt (R T) h' vs rb ro $
    -- [two parts of self; the token; the chunk; the tokens]
    feq_i ! (List Val) us (vptr rb ro ∷ []) e0 $ fjoin3 ! $ nothing ! $ nothing ! $ fjoin ! $ nothing ! $ fjoin ! $
    move ! (1 ∷ 0 ∷ [])
    $ fjoin ! $
    move ! (2 ∷ []) $ chunk_made (B T) Global.the_row ghosts ! global b o n small $
    use0 𝓛 (raw (fact 𝓤 (global ≡ global))) (fact_i 𝓤 _ (emp 𝓤) refl) $
    use0 𝓛 (raw (fact 𝓤 (h'.chunks ≡ rest))) (fact_i 𝓤 _ (emp 𝓤) refl) $
    use0 𝓛 (raw (fact 𝓤 (h'.blocks ≡ []))) (fact_i 𝓤 _ (emp 𝓤) empty) $ group ! 3 $
    returns ! (look_at ! 0 refl) $ free_all ! refl $ move ! (3 ∷ 4 ∷ []) $ join ! $ keep ! (0 ∷ 3 ∷ 2 ∷ 1 ∷ []) $
    by ! (leaves 𝓛 En hs c z (chunk_val t' n) (record { at = t'; len = n; by = record {}; alloc = global }) (h', (tt, (tt, tt))) (
      tt,
      (tt, (tt, tt)),
    )))))))))))))))
