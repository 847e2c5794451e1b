use Rattle.std.proofs.Common.{rules, ◌≡◌, Err, IfErr, subst, sym}
use Rattle.fi_parts.specs.declared.errors.Fault.TheVariants.{TooManyEnds}
use Rattle.futures_intrusive.specs.Ends.{Counted}
use Rattle.futures_intrusive.proofs.ends.End.clone.Goals as goal

pub returns-clause-counted : goal.returns-clause-counted
returns-clause-counted g c = (c.in_ok-membership.ensures.0.now, c.in_ok-membership.ensures.1.now, c.in_ok-membership.ensures.2.0)

pub returns-in_err-membership-clause-refused : goal.returns-in_err-membership-clause-refused
returns-in_err-membership-clause-refused g c =
    let old : Counted g.row.S.Denot = c.in_err-membership.ensures.0.now in
    let refused = c.in_err-membership.ensures.2.1.0 in
    let same : c.from_residual-in_err-membership.result ≡ Err c.in_err-membership.field-0.0 = search rules in
    subst (λ answer. IfErr answer (λ fault. fault ≡ TooManyEnds → (x : Counted g.row.S.Denot) × g.K.CloneSide.adds x (Err fault) x)) (sym same)
    (λ many. (old, subst (λ (new : Counted g.row.S.Denot). g.K.CloneSide.adds old (Err c.in_err-membership.field-0.0) new) refused.1 refused.0))
