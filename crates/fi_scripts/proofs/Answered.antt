-- What a line does, from what its parts do.
use Rattle.std.specs.Prelude.{◌≡◌, ℕ, ◌++◌, Bool, true, false, List, [], ◌∷◌, ◌+◌, length, Option, Some, None, Result, Ok, Err}
use Rattle.std.specs.Prelude.{OnOk, IfErr, IsErrAnd}
use Rattle.std.proofs.Common.{refl, sym, subst, inl, inr, arith}
use Rattle.fi_scripts.specs.declared.output.Output.{Output}
use Rattle.fi_run.specs.declared.answer.Answer.{Answer}
use Rattle.fi_scripts.specs.Asked.{Asks, Performs}
use Rattle.fi_scripts.specs.Texts.{answer_text, wakes_text}
use Rattle.fi_scripts.specs.declared.requests.Request.{Request}
use Rattle.fi_scripts.specs.Answered.{line_text, Calls, TellsWakers, AnswersLine, AnswersLines, LinesAre, AnswersBeginning}
use Rattle.fi_scripts.specs.Answered.{AnswersRest, RefusesLine, RunsShort, IfStopped}
use Rattle.fi_scripts.specs.declared.fault.ScriptFault.{ScriptFault}
use Rattle.fi_scripts.specs.declared.fault.ScriptFault.TheVariants.{Read, Write, BadLine, NoMemory}
use Rattle.fi_scripts.specs.Cuts.{NextLine}
use Rattle.fi_scripts.specs.Language.{Spoken}
use Rattle.fi_scripts.specs.Lines.{Labels, NoLabels, IsBad}
use Rattle.fi_scripts.specs.Outputs.{GoesOn, Tells, on_its_way}
use Rattle.fi_scripts.specs.Unread.{AnswersLeft}
use Rattle.fi_scripts.proofs.Bytes.{appends_none, appends_twice}

module _ {W : Type 0} (contents : W → Option (List ℕ)) where
  -- a line of output whose parts were written one after another
  pub told_line : (old between later new : Output W) (answer : Option (List ℕ)) (wakes : List ℕ)
      → GoesOn contents old between answer → GoesOn contents between later (Some wakes)
      → GoesOn contents later new (Some (10 ∷ [])) → Tells contents old new (λ text. line_text answer wakes ≡ Some text)
  told_line old between later new None wakes first second last = absurd first
  told_line old between later new (Some answer) wakes first second last =
      (_, refl, appends_twice _ _ _ _ _ (appends_twice _ _ _ _ _ first second) last)

  pub held_line : (old between new : Output W) (answer : Option (List ℕ)) → GoesOn contents old between answer
      → GoesOn contents between new (Some (10 ∷ []))
      → Tells contents old new (λ text. line_text answer [] ≡ Some text)
  held_line old between new answer first last =
      told_line old between between new answer [] first (appends_none (on_its_way contents between)) last

module _ {S O C : Type 0} (primitive : Spoken S O C) where
  -- What a line asks for, done, is what the line calls.
  pub called_by : (line : List ℕ) (holds : Bool) (request : Option (Request C)) (labels after : Labels) (old new : S)
      (answer : Answer ℕ ℕ)
      → Asks primitive.call_of labels line holds request
      → Performs primitive.step request labels old answer after new
      → Calls primitive line holds labels old answer after new
  called_by line holds None labels after old new answer asks done = inl (asks.0, asks.1, done.0, done.1, done.2)
  called_by line holds (Some request) labels after old new answer asks done =
      let stands = asks.2 in
      inr (asks.0, request.row, stands.0, request.call, asks.1, stands.1, done.0, done.1 stands.0 stands.2)

  pub held_answer : (line text : List ℕ) (holds : Bool) (labels after then : Labels) (old called new : S)
      (answer : Answer ℕ ℕ) → Calls primitive line holds labels old answer after called
      → holds ≡ true → then ≡ after → new ≡ called → line_text (answer_text answer) [] ≡ Some text
      → AnswersLine primitive line labels old then new text
  held_answer line text holds labels after then old called new answer calls is same stays told = record {
    holds = holds;
    answer = answer;
    called = called;
    calls = subst (λ (l : Labels). Calls primitive line holds labels old answer l called) (sym same) calls;
    tells = subst (λ h. TellsWakers primitive h called answer new text) (sym is) (stays, told);
  }

  pub told_answer : (line text : List ℕ) (holds : Bool) (labels after then : Labels) (old called new : S)
      (answer : Answer ℕ ℕ) → Calls primitive line holds labels old answer after called
      → holds ≡ false → then ≡ after → primitive.outgoing.wakers new ≡ []
      → primitive.outgoing.without_wakers new ≡ primitive.outgoing.without_wakers called
      → line_text (answer_text answer) (wakes_text true (primitive.outgoing.wakers called)) ≡ Some text
      → AnswersLine primitive line labels old then new text
  told_answer line text holds labels after then old called new answer calls is same emptied rest told = record {
    holds = holds;
    answer = answer;
    called = called;
    calls = subst (λ (l : Labels). Calls primitive line holds labels old answer l called) (sym same) calls;
    tells = subst (λ h. TellsWakers primitive h called answer new text) (sym is) (emptied, rest, told);
  }

module _ {S O C W : Type 0} (primitive : Spoken S O C) (contents : W → Option (List ℕ)) where
  -- After the line of this number: what goes on from here goes on from the start.
  abbrev pub IsSoFar : O → Option (List ℕ) → Output W → ℕ → Option (List ℕ) → Labels → S → Output W → Type 0
  IsSoFar opening whole shown number rest used now out =
      (first : S) × (none : Labels) × primitive.opens opening first × NoLabels none
      × ((more : List (List ℕ)) (end : Option (List ℕ)) (after : Labels) (last : S) (later : List ℕ) (left : Output W)
      → LinesAre rest more end → AnswersLines primitive more used now after last later
      → GoesOn contents out left (Some later)
      → (all : List (List ℕ)) × (text : List ℕ) × LinesAre whole all end
      × AnswersLines primitive all none first after last text × GoesOn contents shown left (Some text)
      × (length all + 1 ≡ number + length more))

  pub so_far_goes_on : (opening : O) (whole : Option (List ℕ)) (shown : Output W) (number : ℕ) (rest : Option (List ℕ))
      (used : Labels) (now : S) (out : Output W)
      (line : List ℕ) (after : Option (List ℕ)) (later : Labels) (next : S) (then : Output W)
      → IsSoFar opening whole shown number rest used now out → NextLine rest (Some line) after
      → Tells contents out then (AnswersLine primitive line used now later next)
      → IsSoFar opening whole shown (number + 1) after later next then
  unfolding LinesAre AnswersLines
  so_far_goes_on opening whole shown number rest used now out line after later next then so_far comes told = (
    so_far.0,
    so_far.1,
    so_far.2,
    so_far.3,
    λ more end over last tail left are answered goes.
        let all = so_far.4 (line ∷ more) end over last (told.0 ++ tail) left (after, comes, are)
        (next, later, told.0, tail, told.1, answered, refl) (appends_twice _ _ _ _ _ told.2 goes) in
        (all.0, all.1, all.2, all.3, all.4, omega (arith, all.5)),
  )

  ended_at : (rest after : Option (List ℕ)) → NextLine rest None after → NextLine rest None rest
  ended_at None after none = (refl, refl)
  ended_at (Some []) after none = (refl, refl)
  ended_at (Some (byte ∷ bytes)) after none = absurd none

  abbrev begun : (opening : O) (whole : Option (List ℕ)) (none after : Labels) (first last : S) (all : List (List ℕ))
      (end : Option (List ℕ)) (text : List ℕ) → primitive.opens opening first → NoLabels none → LinesAre whole all end
      → AnswersLines primitive all none first after last text
      → AnswersBeginning primitive (λ asked. asked ≡ opening) whole text
  begun opening whole none after first last all end text opened no_labels are answered = record {
    opening = opening;
    as_asked = refl;
    first = first;
    last = last;
    labels = none;
    after = after;
    lines = all;
    end = end;
    opened = opened;
    no_labels = no_labels;
    are = are;
    answered = answered;
  }

  module _ (opening : O) (whole : Option (List ℕ)) (shown : Output W) (number : ℕ) (rest : Option (List ℕ)) (used : Labels)
      (now : S) (out left : Output W) (so_far : IsSoFar opening whole shown number rest used now out)
      (stays : GoesOn contents out left (Some [])) where
    pub rest_answered : (after : Option (List ℕ)) → NextLine rest None after
        → Tells contents shown left (AnswersRest primitive (λ asked. asked ≡ opening) whole)
    unfolding LinesAre AnswersLines
    rest_answered after none =
        let all = so_far.4 [] rest used now [] left refl (refl, refl, refl) stays in (
          all.1,
          record {
            beginning = begun opening whole so_far.1 used so_far.0 now all.0 rest all.1 so_far.2 so_far.3 all.2 all.3;
            ended = ended_at rest after none;
          },
          all.4,
        )

    pub front_answered : (bad : List ℕ) (after : Option (List ℕ)) → NextLine rest (Some bad) after
        → IsBad primitive.call_of used bad
        → Tells contents shown left (RefusesLine primitive (λ asked. asked ≡ opening) whole (number + 1))
    unfolding LinesAre AnswersLines
    front_answered bad after comes is_bad =
        let all = so_far.4 [] rest used now [] left refl (refl, refl, refl) stays in (
          all.1,
          inr (record {
            beginning = begun opening whole so_far.1 used so_far.0 now all.0 rest all.1 so_far.2 so_far.3 all.2 all.3;
            bad = bad;
            later = after;
            next = comes;
            is_bad = is_bad;
            number_is = omega (arith, all.5);
          }),
          all.4,
        )

    pub beginning_answered : Tells contents shown left (RunsShort primitive (λ asked. asked ≡ opening) whole)
    unfolding LinesAre AnswersLines
    beginning_answered =
        let all = so_far.4 [] rest used now [] left refl (refl, refl, refl) stays in
        (all.1, inr (begun opening whole so_far.1 used so_far.0 now all.0 rest all.1 so_far.2 so_far.3 all.2 all.3), all.4)

pub if_stopped_more : (less more : ℕ → Type 0) (short longer : Type 0) (fault : ScriptFault) → IfStopped less short fault
    → ((line : ℕ) → less line → more line) → (short → longer) → IfStopped more longer fault
if_stopped_more less more short longer Read told on goes = absurd told
if_stopped_more less more short longer Write told on goes = tt
if_stopped_more less more short longer (BadLine line) told on goes = on line told
if_stopped_more less more short longer NoMemory told on goes = goes told

pub if_err_same : {A E : Type 0} (r : Result A E) (told : E → Type 0) (fault : E) → IsErrAnd r (λ other. other ≡ fault)
    → told fault → IfErr r told
if_err_same (Ok x) told fault is here = tt
if_err_same (Err other) told fault is here = subst told (sym is) here

-- What was answered in one way was answered in another, where each of its texts is one of the other's.
answered_more : {A W : Type 0} (contents : W → Option (List ℕ)) (shown left : Output W) (r : Result A ScriptFault)
    (less more : List ℕ → Type 0) → ((text : List ℕ) → less text → more text) → OnOk r (Tells contents shown left less)
    → OnOk r (Tells contents shown left more)
answered_more contents shown left (Ok x) less more on told = (told.0, on told.0 told.1, told.2)
answered_more contents shown left (Err e) less more on told = tt

stopped_more : {A W : Type 0} (contents : W → Option (List ℕ)) (shown left : Output W) (r : Result A ScriptFault)
    (less more : ℕ → List ℕ → Type 0) (short longer : List ℕ → Type 0)
    → ((number : ℕ) (text : List ℕ) → less number text → more number text) → ((text : List ℕ) → short text → longer text)
    → IfErr r (IfStopped (λ number. Tells contents shown left (less number)) (Tells contents shown left short))
    → IfErr r (IfStopped (λ number. Tells contents shown left (more number)) (Tells contents shown left longer))
stopped_more contents shown left (Ok x) less more short longer refused ended told = tt
stopped_more contents shown left (Err fault) less more short longer refused ended told = if_stopped_more _ _ _ _ fault told
    (λ number it. (it.0, refused number it.0 it.1, it.2)) (λ it. (it.0, ended it.0 it.1, it.2))

pub answers_more : {S T O P C D W A : Type 0} {primitive : Spoken S O C} {other : Spoken T P D} {asked : O → Type 0}
    {wanted : P → Type 0} {rest : Option (List ℕ)} {contents : W → Option (List ℕ)} {shown left : Output W}
    {r : Result A ScriptFault} → ((text : List ℕ) → AnswersRest primitive asked rest text → AnswersRest other wanted rest text)
    → ((number : ℕ) (text : List ℕ) → RefusesLine primitive asked rest number text → RefusesLine other wanted rest number text)
    → ((text : List ℕ) → RunsShort primitive asked rest text → RunsShort other wanted rest text)
    → AnswersLeft primitive asked rest contents shown left r → AnswersLeft other wanted rest contents shown left r
answers_more {contents} {shown} {left} {r} answered refused short told = record {
  answered = answered_more contents shown left r _ _ answered told.answered;
  stopped = stopped_more contents shown left r _ _ _ _ refused short told.stopped;
  same_writer = told.same_writer;
}
