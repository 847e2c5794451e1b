-- What a script's first line says of the whole.
use Rattle.std.specs.Prelude.{◌≡◌, ℕ, List, [], Option, Some, Result, Ok, Err, OnOk, IfErr}
use Rattle.std.proofs.Common.{refl, sym, ◌∙◌, subst, ap, inl, inr}
use Rattle.fi_scripts.specs.Answered.{AnswersBeginning, AnswersRest, AnswersFront, RefusesLine, RunsShort, IfStopped}
use Rattle.fi_scripts.specs.Cuts.{IsCut}
use Rattle.fi_scripts.specs.Language.{Spoken, AsksFor, AsksForNone}
use Rattle.fi_scripts.specs.Lines.{joined}
use Rattle.fi_scripts.specs.Outputs.{GoesOn, Tells, on_its_way}
use Rattle.fi_scripts.specs.Primitives.{known, openings_of, IsNoName}
use Rattle.fi_scripts.specs.Script.{IsFirst, IsNoFirst, AnswersScript, RefusesScript, StopsScript}
use Rattle.fi_scripts.specs.declared.fault.ScriptFault.{ScriptFault}
use Rattle.fi_scripts.specs.declared.named.Named.{Named}
use Rattle.fi_scripts.specs.declared.output.Output.{Output}
use Rattle.fi_scripts.specs.Unread.{AnswersLeft}
use Rattle.fi_scripts.proofs.Answered.{if_stopped_more, answers_more}
use Rattle.fi_scripts.proofs.Bytes.{appends_none}
use Rattle.fi_scripts.proofs.Reading.{one_place, cut_of, of_cut, name_lacks, same_name}

module _ {S O C : Type 0} (primitive : Spoken S O C) (asked wanted : O → Type 0)
    (more : (opening : O) → asked opening → wanted opening) (rest : Option (List ℕ)) (text : List ℕ) where
  abbrev beginning_more : AnswersBeginning primitive asked rest text → AnswersBeginning primitive wanted rest text
  beginning_more all = record {
    opening = all.opening;
    as_asked = more all.opening all.as_asked;
    first = all.first;
    last = all.last;
    labels = all.labels;
    after = all.after;
    lines = all.lines;
    end = all.end;
    opened = all.opened;
    no_labels = all.no_labels;
    are = all.are;
    answered = all.answered;
  }

  rest_more : AnswersRest primitive asked rest text → AnswersRest primitive wanted rest text
  rest_more all = record {
    beginning = beginning_more all.beginning;
    ended = all.ended;
  }

  front_more : (number : ℕ) → AnswersFront primitive asked rest number text
      → AnswersFront primitive wanted rest number text
  front_more number front = record {
    beginning = beginning_more front.beginning;
    bad = front.bad;
    later = front.later;
    next = front.next;
    is_bad = front.is_bad;
    number_is = front.number_is;
  }

-- Where this opening is asked for, what was answered from it was asked for.
module _ {S O C : Type 0} (primitive : Spoken S O C) (opening : O) (asked : O → Type 0) (as_asked : asked opening)
    (rest : Option (List ℕ)) where
  abbrev only : O → Type 0
  only other = other ≡ opening

  is_asked : (other : O) → only other → asked other
  is_asked other is = subst asked (sym is) as_asked

  abbrev rest_asked : (text : List ℕ) → AnswersRest primitive only rest text → AnswersRest primitive asked rest text
  rest_asked text all = rest_more primitive only asked is_asked rest text all

  refused_asked : (number : ℕ) (text : List ℕ) → RefusesLine primitive only rest number text
      → RefusesLine primitive asked rest number text
  refused_asked number text (inl none) = absurd (none.2 opening refl)
  refused_asked number text (inr front) = inr (front_more primitive only asked is_asked rest text number front)

  short_asked : (text : List ℕ) → RunsShort primitive only rest text → RunsShort primitive asked rest text
  short_asked text (inl none) = inl none
  short_asked text (inr begun) = inr (beginning_more primitive only asked is_asked rest text begun)

pub answers_as_asked : {S O C W A : Type 0} {primitive : Spoken S O C} {opening : O} {rest : Option (List ℕ)}
    {contents : W → Option (List ℕ)} {shown left : Output W} {r : Result A ScriptFault} (asked : O → Type 0) → asked opening
    → AnswersLeft primitive (λ other. other ≡ opening) rest contents shown left r
    → AnswersLeft primitive asked rest contents shown left r
answers_as_asked {primitive} {opening} {rest} asked as_asked told = answers_more
    (rest_asked primitive opening asked as_asked rest) (refused_asked primitive opening asked as_asked rest)
    (short_asked primitive opening asked as_asked rest) told

module _ (first name : List ℕ) (words : Option (List ℕ)) (cut : IsCut 32 first name words) where
  parts : (named : Named) (text : Option (List ℕ)) → first ≡ joined (known named).name text
      → (name ≡ (known named).name) × (words ≡ text)
  parts named text is =
      one_place 32 name (known named).name words text first cut (cut_of first (known named).name text is (name_lacks named))

  no_name : IsNoName name → IsNoFirst first
  no_name none named opening is = none named (parts named _ is.1).0

  module _ (named : Named) (named_so : name ≡ (known named).name) where
    is_first : (opening : (known named).Opening) → AsksFor (openings_of named) words opening → IsFirst named first opening
    is_first opening asks = (
      asks.0,
      of_cut first name words cut ∙ ap (λ n. joined n words) named_so ∙ ap (λ w. joined (known named).name w) asks.1,
    )

    no_opening : AsksForNone (openings_of named) words → IsNoFirst first
    no_opening nothing other opening is =
        let it = parts other _ is.1 in
        let same : named ≡ other = same_name named other (sym named_so ∙ it.0) in
        subst (λ (n : Named). AsksForNone (openings_of n) words) same nothing opening (is.0, it.1)

module _ {W : Type 0} (contents : W → Option (List ℕ)) (script first name : List ℕ) (rest words : Option (List ℕ))
    (line_cut : IsCut 10 script first rest) (cut : IsCut 32 first name words) (shown left : Output W) where
  pub refused_first : IsNoName name → shown ≡ left → Tells contents shown left (RefusesScript 1 script)
  refused_first none same = (
    [],
    record {
      first = first;
      rest = rest;
      cut = line_cut;
      refused = inl
          (refl, refl, no_name first name words cut none);
    },
    subst (λ (out : Output W). GoesOn contents shown out (Some [])) same (appends_none (on_its_way contents shown)),
  )

  module _ (named : Named) (named_so : name ≡ (known named).name) where
    abbrev first_of_asked : (opening : (known named).Opening) → AsksFor (openings_of named) words opening
        → IsFirst named first opening
    first_of_asked = is_first first name words cut named named_so

    pub script_answered : {A E : Type 0} (r : Result A E)
        → OnOk r (Tells contents shown left (AnswersRest (known named).spoken (AsksFor (openings_of named) words) rest))
        → OnOk r (Tells contents shown left (AnswersScript script))
    script_answered (Ok x) told = (
      told.0,
      record {
        first = first;
        rest = rest;
        named = named;
        cut = line_cut;
        answered = rest_more (known named).spoken _ _ first_of_asked rest told.0 told.1;
      },
      told.2,
    )
    script_answered (Err e) told = tt

    refused : (number : ℕ) (text : List ℕ)
        → RefusesLine (known named).spoken (AsksFor (openings_of named) words) rest number text
        → RefusesScript number script text
    refused number text (inl it) = record {
      first = first;
      rest = rest;
      cut = line_cut;
      refused = inl (it.0, it.1, no_opening first name words cut named named_so it.2);
    }
    refused number text (inr front) = record {
      first = first;
      rest = rest;
      cut = line_cut;
      refused = inr (named, front_more (known named).spoken _ _ first_of_asked rest text number front);
    }

    stopped : (text : List ℕ) → RunsShort (known named).spoken (AsksFor (openings_of named) words) rest text
        → StopsScript script text
    stopped text (inl it) = record { first = first; rest = rest; cut = line_cut; stopped = inl it }
    stopped text (inr beginning) = record {
      first = first;
      rest = rest;
      cut = line_cut;
      stopped = inr (named, beginning_more (known named).spoken _ _ first_of_asked rest text beginning);
    }

    pub script_stopped : {A : Type 0} (r : Result A ScriptFault)
        → IfErr r (IfStopped
        (λ number. Tells contents shown left
        (RefusesLine (known named).spoken (AsksFor (openings_of named) words) rest number))
        (Tells contents shown left (RunsShort (known named).spoken (AsksFor (openings_of named) words) rest)))
        → IfErr r (IfStopped (λ number. Tells contents shown left (RefusesScript number script))
        (Tells contents shown left (StopsScript script)))
    script_stopped (Ok x) told = tt
    script_stopped (Err fault) told =
        if_stopped_more _ _ _ _ fault told (λ number it. (it.0, refused number it.0 it.1, it.2))
        (λ it. (it.0, stopped it.0 it.1, it.2))
