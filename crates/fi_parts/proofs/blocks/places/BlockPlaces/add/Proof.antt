-- `add` makes vacant places of a chunk. Assumes `Logic`.
use Rattle.fi_parts.proofs.RawWalks.{◌$◌, ◌*◌, ◌++◌, ◌^◌, ◌∙◌, ◌∵◌, ◌∷◌, ◌≡◌, ◌⊑◌, ◌⊛◌, !, Borrowed, Fn, Goes-blank, Goes-ref, InBlock}
use Rattle.fi_parts.proofs.RawWalks.{Item, List, MutRef, Ptr, RattleType, SProp, Stays, Ty, Val, WpFn, [], agg, alloc_all, and_then, ap}
use Rattle.fi_parts.proofs.RawWalks.{arith, as_written, block_ptr, by, closes, emp, ent, enter, fact, fact_i, fbor, feq_i, feq_l, fjoin}
use Rattle.fi_parts.proofs.RawWalks.{fjoin3, fld, flft, flt_i, flt_l, fobs, free_all, fsplit, fsplit3, fst∗, ftrue, get, get_in, ghosts}
use Rattle.fi_parts.proofs.RawWalks.{group, id⊢, in_a_block, inst_fn, join, keep, leaves, lone, look_at, mem, move, named, never, no}
use Rattle.fi_parts.proofs.RawWalks.{no_more, nothing, of_opd, opens, owns, pass_all, plain, proved_at, qed, raw, refl, returns, rewrite}
use Rattle.fi_parts.proofs.RawWalks.{room_for, sem, sets, split, stay_dropped, stay_ref, stop, sub, subst, sym, tables, ty_array, type_size}
use Rattle.fi_parts.proofs.RawWalks.{use0, use1, use2, via, vptr, walk_of, whole, word, word-Good, ‵, ℕ, ⋆}
use Rattle.std.specs.contracts.alloc.Global as Global
use Rattle.std.proofs.GlobalToken.{dealloc_token_start}
use Rattle.fi_parts.specs.BlockOwner.{global, heap_token, chunk_ty, deed, vacancy, vacancies_own, IsShared, places}
use Rattle.fi_parts.specs.BlockOwner.{all_places}
use Rattle.fi_parts.specs.declared.blocks.places.BlockPlaces.{BlockPlaces}
use Rattle.fi_parts.proofs.BlockCounts.{times_append}
use Rattle.fi_parts.proofs.BlockFresh.{knows}
use Rattle.fi_parts.proofs.ChunkRooms.{vacant_of_room}
use Rattle.fi_parts.proofs.ChunkSteps.{ChunkRow, chunk_val, chunk_good, chunk_had}
use Rattle.fi_parts.proofs.BlockMemory.{args, B, R, word_made, own_append, all_out, all_in}
use Rattle.fi_parts.specs.contracts.blocks.places.BlockPlaces.add.{ended, clauses}
use Rattle.fi_parts.specs.contracts.blocks.places.BlockPlaces.add.Key.{name as #self}
use Rattle.fi_parts.proofs.blocks.places.BlockPlaces.add.Statement.{statement}
use Rattle.fi_parts.proofs.blocks.places.BlockPlaces.add.Code as code

pub add_spec : {M : Type 1} → statement M
add_spec 𝓤 𝓛 𝓜 𝓡 wired T L =
    let H = 𝓛.H in let 𝓣 = tables 𝓤 H 𝓜 𝓡 𝓡.env in
    let En = ended T in let c = clauses T 𝓛 𝓜.mem 𝓡.returns in
    let fn : Fn = inst_fn (args T) code.function in
    let C : RattleType = ChunkRow (B T) Global.the_row ghosts in
    let hs : Stays En.signature.params En.kept = (stay_ref (0 ∷ []) tt (plain (λ _. R T)), (stay_dropped (plain (λ _. C)) no, tt)) in
    proved_at 𝓛 En hs c 𝓜 𝓡 (Goes-ref 𝓛 2 0 tt (plain (λ _. R T)), (Goes-blank 𝓛 2 (plain (λ _. C)) no (λ κs x f. tt), tt))
    (#self (args T)) fn (code.unfolded 𝓤 H 𝓜 𝓡 wired (T, tt)) (λ z are.
    let κ = z.0.0.0 in let q = z.0.1.0 in let ϑ = z.0.0.1.0 in let r = z.0.1.1.0 in
    let d = z.0.3.0.now in let k : C.Denot = z.0.3.1.0 in let n : ℕ = k.len in let rb = z.0.3.0.ref_ptr.0 in
    let ro = z.0.3.0.ref_ptr.1 in let γ = z.0.3.0.ghost_name in let us = z.0.4.0 in let ws = z.0.4.1.0 in
    let Post : Val → SProp 𝓤 = (walk_of 𝓛 En hs c).post z in let τ : Ty = lone (B T).mir in
    let s : ℕ = type_size (B T) in
    let toks : Item 𝓤 = ‵ (flft ϑ r) ⊛ ‵ ftrue in
    qed 𝓛 (((‵ (flft κ q) ⊛ toks) ⊛ ‵ (owns (MutRef (named 0) κ (R T) ∷ C ∷ []) z.0.3 z.0.4)) ∷ raw (fact 𝓤 (ϑ ⊑ T.lives)) ∷ raw
    (emp 𝓤) ∷ []) ∵
    split ! $ split ! $ move ! (2 ∷ []) $ fsplit ! $ fsplit3 ! $ feq_l !
    (λ e0. move ! (2 ∷ []) $ fsplit ! $ chunk_had (B T) Global.the_row ghosts ! k ws (λ e1 small.
    fsplit ! $ in_a_block ! k.at (λ t. room_for (chunk_ty (B T) n) t) (id⊢ 𝓤 (never 𝓤)) (λ b o e.
    -- [the room; the right to free; nothing; what is observed; the borrow; the token; the other tokens; ..]
    let p : Ptr = block_ptr b o in
    move ! (1 ∷ []) $ rewrite ! 0 (λ (t : Ptr). ‵ (deed (B T) heap_token t n)) e refl $ fsplit ! $ flt_l ! (λ fit.
    knows ! (o ≡ 0) (via 𝓤 _ (fst∗ 𝓤 (sem 𝓛 (heap_token (chunk_ty (B T) n) p)) (sem 𝓛 (room_for (chunk_ty (B T) n) p)))
    (dealloc_token_start 𝓛 global (chunk_ty (B T) n) p)) (λ start.
    flt_i ! (n * s) (2 ^ 63) fit $ fjoin ! $ move ! (1 ∷ []) $
    let Had : List (Item 𝓤) = ‵ (room_for (chunk_ty (B T) n) p) ∷ ‵ (deed (B T) heap_token p n) ∷ ‵ (fobs γ ((R T).coded.code d)) ∷ ‵
    (fbor κ (Borrowed (mem (R T)) rb ro γ)) ∷ ‵ (flft κ q) ∷ toks ∷ [] in
    keep ! (0 ∷ 1 ∷ 3 ∷ 4 ∷ 5 ∷ 6 ∷ []) $
    by ! (subst (λ (ls : List Val × List Val). ent 𝓤 (⋆ 𝓛 Had) (WpFn 𝓤 H 𝓣.C 𝓣.Λ fn (ls.0 ++ (ls.1 ++ [])) Post))
    (λ j. (sym e0 j, sym (e1 ∙ ap (λ t. chunk_val t n ∷ []) e) j)) (
    qed 𝓛 Had ∵ enter ! 𝓣.C 𝓣.Λ fn (vptr rb ro ∷ chunk_val p n ∷ []) _ $ alloc_all !
    (λ l. pass_all ! refl ((tt, tt), (chunk_good (B T) Global.the_row ghosts b o n small, tt)) $
    sets ! (of_opd ! (get_in ! (fld ! refl (stop !)) (sub ! 0 refl (whole !)))) refl (tt, tt) $
    sets ! (agg ! (and_then ! (get ! refl) (no_more !))) refl (word-Good [] p) $
    as_written ! (ty_array τ n) b o $
    use1 𝓛 (‵ (vacancies_own (B T) (places (B T) p n))) (vacant_of_room (B T) 𝓛 b n o (omega (arith, fit, start))) $
    move ! (2 ∷ 3 ∷ 4 ∷ []) $ opens ! tt (R T) {h = d} rb ro (λ vs. move ! (1 ∷ []) $ fsplit ! $ move ! (1 ∷ []) $
    all_out (B T) d.blocks d.vacant d.chunks ! (λ shared.
    -- [the blocks; the vacant places; the rights; the mark; the cell; the open borrow in three; the new places; the
    -- new right;
    -- the tokens]
    let h' : BlockPlaces T.Denot = record d { vacant = places (B T) p n ++ d.vacant; chunks = (p, n) ∷ d.chunks } in
    let still : IsShared (B T) h'.blocks h'.vacant h'.chunks =
    λ t. let new = times_append t (places (B T) p n) d.vacant in
    let all = times_append t (places (B T) p n) (all_places (B T) d.chunks) in
    let old = shared t in omega (arith, new, all, old) in
    move ! (8 ∷ 1 ∷ []) $ use2 𝓛 (‵ (vacancies_own (B T) h'.vacant)) (own_append 𝓛 (vacancy (B T)) (places (B T) p n) d.vacant) $
    move ! (8 ∷ 2 ∷ []) $ fjoin ! $ move ! (2 ∷ 1 ∷ 0 ∷ []) $
    all_in (B T) h'.blocks h'.vacant h'.chunks ! still $ move ! (1 ∷ 0 ∷ []) $ fjoin ! $ move ! (1 ∷ 0 ∷ []) $
    closes ! tt (R T) h' vs rb ro $
    feq_i ! (List Val) us (vptr rb ro ∷ []) e0 $ fjoin3 ! $ nothing ! $ nothing ! $ fjoin ! $ move ! (1 ∷ 0 ∷ []) $
    fjoin ! $
    word_made ! p $
    use0 𝓛 (raw (fact 𝓤 (h'.chunks ≡ (p, n) ∷ d.chunks))) (fact_i 𝓤 _ (emp 𝓤) refl) $
    use0 𝓛 (raw (fact 𝓤 (h'.vacant ≡ places (B T) p n ++ d.vacant))) (fact_i 𝓤 _ (emp 𝓤) refl) $
    use0 𝓛 (raw (fact 𝓤 (h'.blocks ≡ d.blocks))) (fact_i 𝓤 _ (emp 𝓤) refl) $
    use0 𝓛 (raw (fact 𝓤 (InBlock p))) (fact_i 𝓤 _ (emp 𝓤) tt) $ group ! 4 $
    returns ! (look_at ! 0 refl) $ free_all ! refl $ move ! (3 ∷ 4 ∷ []) $ join ! $ keep ! (0 ∷ 3 ∷ 2 ∷ 1 ∷ []) $
    by ! (leaves 𝓛 En hs c z (word p) (record { ptr = p }) (h', (tt, tt)) (tt, (tt, tt))))))))))))))
