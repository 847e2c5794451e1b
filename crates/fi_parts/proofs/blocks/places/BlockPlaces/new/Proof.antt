-- `new` owns no chunk. Assumes `Logic`.
use Rattle.fi_parts.proofs.RawWalks.{◌$◌, ◌∵◌, ◌∷◌, ◌≡◌, ◌⊑◌, ◌⊛◌, !, Fn, SProp, Stays, Val, [], agg, alloc_all, and_then, by, emp, enter}
use Rattle.fi_parts.proofs.RawWalks.{fact, fact_i, fjoin, flft, fpack, free_all, ftrue, get, group, inst_fn, keep, leaves, look_at, move}
use Rattle.fi_parts.proofs.RawWalks.{no_more, nothing, pass_all, proved_at, qed, raw, refl, returns, sets, split, tables, use0, vcons, vnil}
use Rattle.fi_parts.proofs.RawWalks.{vstruct, walk_of, ‵}
use denote.Shadow.{makes_shadow}
use Rattle.fi_parts.specs.declared.blocks.places.BlockPlaces.{BlockPlaces}
use Rattle.fi_parts.specs.BlockOwner.{IsShared}
use Rattle.fi_parts.proofs.BlockCounts.{shared_none}
use Rattle.fi_parts.proofs.BlockMemory.{args, B, Mark}
use Rattle.fi_parts.specs.contracts.blocks.places.BlockPlaces.new.{ended, clauses}
use Rattle.fi_parts.specs.contracts.blocks.places.BlockPlaces.new.Key.{name as #self}
use Rattle.fi_parts.proofs.blocks.places.BlockPlaces.new.Statement.{statement}
use Rattle.fi_parts.proofs.blocks.places.BlockPlaces.new.Code as code

pub new_spec : {M : Type 1} → statement M
new_spec 𝓤 𝓛 𝓜 𝓡 wired T L =
    let H = 𝓛.H in let 𝓣 = tables 𝓤 H 𝓜 𝓡 𝓡.env in
    let En = ended T in let c = clauses T 𝓛 𝓜.mem 𝓡.returns in
    let fn : Fn = inst_fn (args T) code.function in
    let hs : Stays En.signature.params En.kept = tt in
    proved_at 𝓛 En hs c 𝓜 𝓡 tt (#self (args T)) fn (code.unfolded 𝓤 H 𝓜 𝓡 wired (T, tt)) (λ z are.
    let Post : Val → SProp 𝓤 = (walk_of 𝓛 En hs c).post z in
    let mark : Val = vstruct (vcons (vstruct vnil) vnil) in
    let h : BlockPlaces T.Denot = record { mark = record {}; blocks = []; vacant = []; chunks = [] } in
    let shared : IsShared (B T) [] [] [] = shared_none (B T).Denot (Unit {0}) in
    qed 𝓛 (((‵ (flft z.0.0.0 z.0.1.0) ⊛ ‵ ftrue) ⊛ ‵ ftrue) ∷ raw (fact 𝓤 (z.0.0.0 ⊑ T.lives)) ∷ raw (emp 𝓤) ∷ []) ∵
    split ! $ keep ! (0 ∷ []) $ enter ! 𝓣.C 𝓣.Λ fn [] Post $ alloc_all ! (λ l. pass_all ! refl tt $
    sets ! (agg ! (no_more !)) refl (tt, tt) $
    sets ! (agg ! (and_then ! (get ! refl) (no_more !))) refl (tt, (tt, tt)) $
    use0 𝓛 (raw (fact 𝓤 (h.chunks ≡ []))) (fact_i 𝓤 _ (emp 𝓤) refl) $
    use0 𝓛 (raw (fact 𝓤 (h.vacant ≡ []))) (fact_i 𝓤 _ (emp 𝓤) refl) $
    use0 𝓛 (raw (fact 𝓤 (h.blocks ≡ []))) (fact_i 𝓤 _ (emp 𝓤) refl) $ group ! 3 $
    nothing ! $ fpack ! (IsShared (B T) [] [] []) (λ _. ftrue) shared $ nothing ! $ fjoin ! $ nothing ! $ fjoin ! $
    nothing ! $ fjoin ! $
    use0 𝓛 (‵ ((Mark T).own_val (tt, tt) (mark ∷ [])))
    (makes_shadow 𝓛 ((Mark T).own_val (tt, tt) (mark ∷ [])) (λ vss. (tt, ((λ uss. (tt, tt)), tt)))
    ((vstruct vnil ∷ [], tt), (refl, ((tt, (refl, tt)), tt)))) $ fjoin ! $ nothing ! $
    returns ! (look_at ! 0 refl) $ free_all ! refl $ move ! (3 ∷ 0 ∷ 1 ∷ 2 ∷ []) $
    by ! (leaves 𝓛 En hs c z mark h tt tt))
    )
