use Rattle.std.specs.Prelude.{Some, option_copied}
use Rattle.std.proofs.Common.{refl, ap}
use Rattle.fi_scripts.specs.Cuts.{IsCut}
use Rattle.fi_run.specs.declared.script.row.Numbers.TheVariants.{Absent}
use Rattle.fi_run.specs.Verbs.{verb_text}
use Rattle.fi_scripts.proofs.Reading.{cut_is, no_verb, no_plain, no_labelled, labelled_words}
use Rattle.fi_scripts.proofs.words.Words.read.Goals as goal

pub returns-in_err-verb : goal.returns-in_err-verb
returns-in_err-verb c = rw c.from_residual.ensures (no_verb _ _ _ c.split_at_first.ensures c.in_err-verb.ensures)

pub returns-in_err-parse_numbers : goal.returns-in_err-parse_numbers
returns-in_err-parse_numbers c =
    let cut : IsCut 32 c.args.line.now (verb_text c.in_ok-verb.verb) (Some c.in-Some.rest.now) = cut_is _ _ _ _ _
    c.split_at_first.ensures c.in_ok-verb.ensures (ap option_copied c.in-Some.is) in
    rw c.from_residual-in_err-parse_numbers.ensures (no_plain _ _ _ cut c.in_default-first.ensures.label c.in_err-parse_numbers.ensures)

pub returns-in_default-after : goal.returns-in_default-after
returns-in_default-after c =
    let cut : IsCut 32 c.args.line.now (verb_text c.in_ok-verb.verb) (Some c.in-Some.rest.now) = cut_is _ _ _ _ _
    c.split_at_first.ensures c.in_ok-verb.ensures (ap option_copied c.in-Some.is) in
    let begins = c.in-Some-first.ensures.label in (
      Some begins.0,
      labelled_words _ _ _ _ _ Absent cut begins.1 begins.2 (ap option_copied c.in_default-after.is) tt,
      (begins.2, begins.3),
    )

pub returns-in_err-parse_numbers-2 : goal.returns-in_err-parse_numbers-2
returns-in_err-parse_numbers-2 c =
    let cut : IsCut 32 c.args.line.now (verb_text c.in_ok-verb.verb) (Some c.in-Some.rest.now) = cut_is _ _ _ _ _
    c.split_at_first.ensures c.in_ok-verb.ensures (ap option_copied c.in-Some.is) in
    let begins = c.in-Some-first.ensures.label in
    let cut' : IsCut 32 c.in-Some.rest.now begins.0 (Some c.in-Some-after.numerals.now) = cut_is _ _ _ _ _ begins.1 refl
    (ap option_copied c.in-Some-after.is) in
    rw c.from_residual-in_err-parse_numbers-2.ensures
    (no_labelled _ _ _ _ _ cut cut' begins.2 c.in_err-parse_numbers-2.ensures)

pub returns : goal.returns
returns c =
    let cut : IsCut 32 c.args.line.now (verb_text c.in_ok-verb.verb) (Some c.in-Some.rest.now) = cut_is _ _ _ _ _
    c.split_at_first.ensures c.in_ok-verb.ensures (ap option_copied c.in-Some.is) in
    let begins = c.in-Some-first.ensures.label in
    let cut' : IsCut 32 c.in-Some.rest.now begins.0 (Some c.in-Some-after.numerals.now) = cut_is _ _ _ _ _ begins.1 refl
    (ap option_copied c.in-Some-after.is) in (
      Some begins.0,
      labelled_words _ _ _ _ _ c.in_ok-parse_numbers-2.field-0 cut cut' begins.2 c.in_ok-parse_numbers-2.ensures.1
          c.in_ok-parse_numbers-2.ensures.0,
      (begins.2, begins.3),
    )
