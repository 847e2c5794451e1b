-- `whole` shows one block that the owner of the blocks lends. Assumes `Logic`.
use Rattle.fi_parts.proofs.RawWalks.{◌$◌, ◌++◌, ◌∵◌, ◌∷◌, ◌⊑◌, ◌⊛◌, !, Bor, Env, Fn, Goes-dropped, IsSome, Item, List, Ptr, RefOf, SProp}
use Rattle.fi_parts.proofs.RawWalks.{ShrRef, Stays, Val, WpFn, [], addr, after, alloc_all, at_ret, blocks, by, done, drop, ends_at, ent}
use Rattle.fi_parts.proofs.RawWalks.{enter, env, exec, fact, fat, feq_i, feq_l, first, fjoin, fld, flft, free_all, from, fsplit, ftrue}
use Rattle.fi_parts.proofs.RawWalks.{full_share, get, give_at, heard, hidden_shr, hop, in_a_block, inst_fn, join, keep, layout, lent_at}
use Rattle.fi_parts.proofs.RawWalks.{look_at, look_in_at, move, named, no, nothing, null_ptr, of_opd, owns, pass_all, plain, proved_at, qed}
use Rattle.fi_parts.proofs.RawWalks.{raw, refl, returns, rewrite, says, sets, sets_last, split, stay_dropped, stop, sub, subst, suffices}
use Rattle.fi_parts.proofs.RawWalks.{sym, tables, take_at, use1, vptr, walk_of, whole, word, word-Good, yes, ‵, ⋆}
use denote.Opens.{hide, unhide}
use Rattle.fi_parts.specs.Placed.{at_ptr}
use Rattle.fi_parts.specs.BlockOwner.{blocks_lent}
use Rattle.fi_parts.proofs.Placed.{Cut, cut_at, some_of}
use Rattle.fi_parts.proofs.BlockMemory.{args, B, P, R, word_had, block_seen}
use Rattle.fi_parts.specs.contracts.blocks.places.BlockPlaces.whole.{ended, clauses}
use Rattle.fi_parts.specs.contracts.blocks.places.BlockPlaces.whole.Key.{name as #self}
use Rattle.fi_parts.proofs.blocks.places.BlockPlaces.whole.Statement.{statement}
use Rattle.fi_parts.proofs.blocks.places.BlockPlaces.whole.Code as code

pub whole_spec : {M : Type 1} → statement M
whole_spec 𝓤 𝓛 𝓜 𝓡 wired T L =
    let H = 𝓛.H in let 𝓣 = tables 𝓤 H 𝓜 𝓡 𝓡.env in
    let En = ended T in let c = clauses T 𝓛 𝓜.mem 𝓡.returns in
    let fn : Fn = inst_fn (args T) code.function in
    let Self = RefOf (0 ∷ []) tt (plain (λ _. R T)) (λ _. tt) in
    let hs : Stays En.signature.params En.kept = (stay_dropped Self yes, (stay_dropped (plain (λ _. P T)) no, tt)) in
    proved_at 𝓛 En hs c 𝓜 𝓡 (Goes-dropped 𝓛 2 Self yes (λ κs x f. refl), (Goes-dropped 𝓛 2 (plain (λ _. P T)) no (λ κs x f. refl), tt))
    (#self (args T)) fn (code.unfolded 𝓤 H 𝓜 𝓡 wired (T, tt)) (λ z are.
    let κ = z.0.0.0 in let q = z.0.1.0 in let ϑ = z.0.0.1.0 in let r = z.0.1.1.0 in
    let d = z.0.3.0.now in let p : Ptr = z.0.3.1.0.ptr in let rb = z.0.3.0.ref_ptr.0 in let ro = z.0.3.0.ref_ptr.1 in
    let us = z.0.4.0 in let ws = z.0.4.1.0 in
    let Post : Val → SProp 𝓤 = (walk_of 𝓛 En hs c).post z in
    let toks : Item 𝓤 = ‵ (flft κ q) ⊛ ‵ (flft ϑ r) ⊛ ‵ ftrue in
    qed 𝓛 ((toks ⊛ ‵ (owns (ShrRef (named 0) κ (R T) ∷ P T ∷ []) z.0.3 z.0.4)) ∷ raw (fact 𝓤 (ϑ ⊑ T.lives)) ∷ raw
    (fact 𝓤 (IsSome (at_ptr d.blocks p))) ∷ []) ∵
    move ! (2 ∷ []) $ heard ! _ (λ there. let found = some_of (at_ptr d.blocks p) there in let b =
    found.0 in let cut : Cut d.blocks p b = cut_at d.blocks p b found.1 in
    split ! $ move ! (1 ∷ []) $ fsplit ! $ fsplit ! $ feq_l ! (λ e0. move ! (1 ∷ []) $ fsplit ! $ word_had ! p ws (λ e1.
    -- [nothing; what is lent; the tokens; the bound]
    let Had : List (Item 𝓤) = ‵ (hidden_shr (R T) κ d rb ro) ∷ toks ∷ [] in
    keep ! (1 ∷ 2 ∷ []) $
    by ! (subst (λ (xs : List Val × List Val). ent 𝓤 (⋆ 𝓛 Had) (WpFn 𝓤 H 𝓣.C 𝓣.Λ fn (xs.0 ++ (xs.1 ++ [])) Post))
    (λ j. (sym e0 j, sym e1 j)) (
    qed 𝓛 Had ∵ enter ! 𝓣.C 𝓣.Λ fn (vptr rb ro ∷ word p ∷ []) _ $
    alloc_all ! (λ l. pass_all ! refl ((tt, tt), (word-Good [] p, tt)) $
    let Ev : Env 𝓤 H = env fn.locals l in
    unhide ! $ fsplit ! $ drop ! $
    rewrite ! 0 (λ (bs : List (Ptr × (B T).Denot)). ‵ (blocks_lent (B T) bs κ)) cut.is refl $
    use1 𝓛 (‵ (lent_at (B T) p b κ)) (block_seen 𝓛 (B T) κ cut.front (p, b) cut.back) $
    in_a_block ! p (λ s. lent_at (B T) s b κ) (qed 𝓛 (‵ (lent_at (B T) null_ptr b κ) ∷ []) ∵ fsplit ! $
    keep ! (0 ∷ []) $ done !)
    (λ pb po e.
    take_at ! 2 $ rewrite ! 0 (λ (s : Ptr). ‵ (fat full_share (layout (P T)) (l 2) 0 (word s))) e refl $ give_at ! 2 $
    first ! $ blocks ! $ sets_last ! (addr ! (from ! (fld ! refl (hop ! (look_in_at ! 2 (sub ! 0 refl (whole !))) (stop !))))) refl
    (tt, tt) $
    exec ! 𝓣.C 𝓣.Λ Ev (after 1 fn.body) (at_ret Ev Post) $ sets ! (of_opd ! (get ! refl)) refl (tt, tt) $
    fsplit ! $ drop ! $ hide ! $ feq_i ! (List Val) (vptr pb po ∷ []) (vptr pb po ∷ []) refl $ fjoin ! $
    returns ! (look_at ! 0 refl) $ free_all ! refl $
    let lent : Bor (B T).Denot = record { ref_ptr = (pb, po); now = b } in
    suffices ! _ (ends_at 𝓛 En hs c z (vptr pb po) lent (tt, (tt, tt)) (tt, (tt, tt))) $ says ! found.1 $
    nothing ! $ nothing ! $ fjoin ! $ nothing ! $ fjoin ! $ join ! $ move ! (1 ∷ 0 ∷ []) $ join ! $ done !)))))))
    )
