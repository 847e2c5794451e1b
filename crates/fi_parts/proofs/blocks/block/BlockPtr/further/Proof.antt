-- `further` moves a pointer up by whole blocks. Assumes `Logic`.
use Rattle.fi_parts.proofs.RawWalks.{◌$◌, ◌*◌, ◌++◌, ◌+◌, ◌<◌, ◌^◌, ◌∵◌, ◌∷◌, ◌≡◌, ◌⊑◌, ◌⊛◌, !, FitsInBlock, Fn, Goes-dropped, InBlock}
use Rattle.fi_parts.proofs.RawWalks.{Item, List, Ptr, SProp, Stays, Val, WpFn, [], after, agg, alloc_all, and_then, ap, arith, at_ret, bin}
use Rattle.fi_parts.proofs.RawWalks.{block_ptr, blocks, by, count_of, emp, ent, enter, env, exec, fact, fact_i, fat, feq_l, first, fjoin}
use Rattle.fi_parts.proofs.RawWalks.{fld, flft, flt_l, free_all, fsplit, ftrue, full_share, get, get_in, give_at, heard, inst_fn, keep}
use Rattle.fi_parts.proofs.RawWalks.{layout, leaves, look_at, move, no, no_more, nothing, of_opd, owns, param, pass_all, plain, proved_at}
use Rattle.fi_parts.proofs.RawWalks.{qed, raw, refl, returns, rewrite, sets, sets_last, split, stay_dropped, stop, sub, subst, suc, suc-mul}
use Rattle.fi_parts.proofs.RawWalks.{sym, tables, take_at, type_size, use0, usize, vint, w64, walk_of, whole, word, word-Good, yes, ‵, ℕ, ⋆}
use types.Run.{size_lit}
use denote.RawPtr.{block_of, at_block}
use Rattle.fi_parts.specs.BlockOwner.{block_further}
use Rattle.fi_parts.proofs.BlockMemory.{args, B, P, word_had, word_made}
use Rattle.fi_parts.specs.contracts.blocks.block.BlockPtr.further.{ended, clauses}
use Rattle.fi_parts.specs.contracts.blocks.block.BlockPtr.further.Key.{name as #self}
use Rattle.fi_parts.proofs.blocks.block.BlockPtr.further.Statement.{statement}
use Rattle.fi_parts.proofs.blocks.block.BlockPtr.further.Code as code

pub further_spec : {M : Type 1} → statement M
further_spec 𝓤 𝓛 𝓜 𝓡 wired T L =
    let H = 𝓛.H in let 𝓣 = tables 𝓤 H 𝓜 𝓡 𝓡.env in
    let En = ended T in let c = clauses T 𝓛 𝓜.mem 𝓡.returns in
    let fn : Fn = inst_fn (args T) code.function in
    let hs : Stays En.signature.params En.kept = (stay_dropped (plain (λ _. P T)) no, (stay_dropped (plain (λ _. usize)) yes, tt)) in
    proved_at 𝓛 En hs c 𝓜 𝓡
    (Goes-dropped 𝓛 1 (plain (λ _. P T)) no (λ κs x f. refl), (Goes-dropped 𝓛 1 (plain (λ _. usize)) yes (λ κs x f. refl), tt))
    (#self (args T)) fn (code.unfolded 𝓤 H 𝓜 𝓡 wired (T, tt)) (λ z are.
    let ϑ = z.0.0.0 in let r = z.0.1.0 in let p : Ptr = z.0.3.0.ptr in let n : ℕ = z.0.3.1.0 in
    let us = z.0.4.0 in let ws = z.0.4.1.0 in
    let Post : Val → SProp 𝓤 = (walk_of 𝓛 En hs c).post z in let s : ℕ = type_size (B T) in
    let toks : Item 𝓤 = ‵ (flft ϑ r) ⊛ ‵ ftrue in
    qed 𝓛 ((toks ⊛ ‵ (owns (P T ∷ usize ∷ []) z.0.3 z.0.4)) ∷ raw (fact 𝓤 (ϑ ⊑ T.lives)) ∷ (raw (fact 𝓤 (InBlock p)) ⊛ raw
    (fact 𝓤 (FitsInBlock (B T) (n + 1)))) ∷ []) ∵
    move ! (2 ∷ []) $ split ! $ heard ! _ (λ inside. heard ! _ (λ fit.
    split ! $ move ! (1 ∷ []) $ fsplit ! $ word_had ! p us (λ e0. fsplit ! $ fsplit ! $ feq_l ! (λ e1. flt_l ! (λ small.
    let e : p ≡ block_ptr (block_of p) (count_of p) = at_block p inside in
    let one_more : n + 1 ≡ suc n = omega arith in
    let whole_size : suc n * s < 2 ^ 63 = subst (λ (k : ℕ). k * s < 2 ^ 63) one_more fit.0 in
    let parts = suc-mul n s in let tiny : s < 2 ^ 64 = omega (arith, whole_size, parts) in
    let far : n * s < 2 ^ 64 = omega (arith, whole_size, parts) in
    let Had : List (Item 𝓤) = toks ∷ [] in
    keep ! (1 ∷ []) $
    by ! (subst (λ (xs : List Val × List Val). ent 𝓤 (⋆ 𝓛 Had) (WpFn 𝓤 H 𝓣.C 𝓣.Λ fn (xs.0 ++ (xs.1 ++ [])) Post))
    (λ j. (sym e0 j, sym e1 j)) (
    qed 𝓛 Had ∵ enter ! 𝓣.C 𝓣.Λ fn (word p ∷ vint w64 n ∷ []) _ $ alloc_all !
    (λ l. pass_all ! refl (word-Good [] p, ((tt, record { fits = small }), tt)) $ let Ev = env fn.locals l in
    take_at ! 1 $ rewrite ! 0 (λ (t : Ptr). ‵ (fat full_share (layout (P T)) (l 1) 0 (word t))) e refl $ give_at ! 1 $
    first ! $ blocks ! $
    sets ! (of_opd ! (get_in ! (fld ! refl (stop !)) (sub ! 0 refl (whole !)))) refl (tt, tt) $
    sets ! (of_opd ! (get ! refl)) refl (tt, record { fits = small }) $
    sets ! (bin ! (get ! refl) (size_lit ! (record { fits = tiny })) (record { fits = far })) refl (tt, record { fits = far }) $
    sets_last ! (bin ! (get ! refl) (get ! refl) tt) refl (tt, tt) $
    exec ! 𝓣.C 𝓣.Λ Ev (after 1 fn.body) (at_ret Ev Post) $ sets ! (of_opd ! (get ! refl)) refl (tt, tt) $
    let p' : Ptr = block_ptr (block_of p) (n * s + count_of p) in
    sets ! (agg ! (and_then ! (get ! refl) (no_more !))) refl (word-Good [] p') $ word_made ! p' $
    use0 𝓛 (raw (fact 𝓤 (p' ≡ block_further (param 0 T) n p))) (fact_i 𝓤 _ (emp 𝓤) (sym (ap (block_further (param 0 T) n) e))) $
    nothing ! $ nothing ! $ fjoin ! $ nothing ! $ fjoin ! $
    returns ! (look_at ! 0 refl) $ free_all ! refl $ keep ! (3 ∷ 0 ∷ 2 ∷ 1 ∷ []) $
    by ! (leaves 𝓛 En hs c z (word p') (record { ptr = p' }) (tt, (tt, tt)) (tt, (tt, tt))))))))))))
