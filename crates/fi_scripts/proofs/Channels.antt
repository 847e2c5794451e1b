-- What is answered over one buffer is what the channel answers.
use Rattle.std.specs.Prelude.{◌≡◌, ◌≢◌, ◌<◌, ◌≤◌, ◌^◌, ℕ, Bool, true, false, List, [], ◌∷◌}
use Rattle.std.specs.Prelude.{Option, None, Some, Result, codes}
use Rattle.std.specs.Fmt.{decimal}
use Rattle.std.proofs.Common.{refl, sym, subst, inl, inr, ap, arith, ◌∙◌}
use Rattle.fi_parts.specs.Buffer.{empty}
use Rattle.fi_channels.specs.ChannelWords.{ChannelMachine, opened}
use Rattle.fi_run.specs.Channel.{Opens}
use Rattle.fi_run.specs.Outgoing.{Outgoing}
use Rattle.fi_run.specs.declared.answer.Answer.{Answer}
use Rattle.fi_scripts.specs.Answered.{TellsWakers, AnswersLine, AnswersLines, AnswersBeginning, AnswersRest}
use Rattle.fi_scripts.specs.Answered.{AnswersFront, RefusesLine, RunsShort}
use Rattle.fi_scripts.specs.Channels.{capacity_of, OpensOver}
use Rattle.fi_scripts.specs.Cuts.{IsCut}
use Rattle.fi_scripts.specs.Language.{Openings, Spoken, spoken}
use Rattle.fi_scripts.specs.Lines.{Labels}
use Rattle.fi_scripts.specs.Openings.{buffer_text}
use Rattle.fi_scripts.specs.declared.buffer.Buffer.{Buffer}
use Rattle.fi_scripts.specs.declared.buffer.Buffer.TheVariants.{Fixed, Growing}
use Rattle.fi_scripts.specs.declared.fault.ScriptFault.{ScriptFault}
use Rattle.fi_scripts.specs.declared.output.Output.{Output}
use Rattle.fi_scripts.specs.Unread.{AnswersLeft}
use Rattle.fi_run.specs.declared.script.row.Row.{Row}
use Rattle.fi_scripts.proofs.Answered.{answers_more}
use Rattle.fi_scripts.proofs.Reading.{one_place, cut_of, some_same, none_is_not, same_number, heap_lacks}

-- One machine with one table of lines, whose openings are told in two ways.
module _ {S O P C : Type 0} (step : S → C → Answer ℕ ℕ → S → Type 0) (outgoing : Outgoing S ℕ) (call_of : Row → Option C)
    (opens : O → S → Type 0) (opens_too : P → S → Type 0) (openings : Openings O) (openings_too : Openings P) where
  abbrev one : Spoken S O C
  one = spoken opens step outgoing openings call_of

  abbrev other : Spoken S P C
  other = spoken opens_too step outgoing openings_too call_of

  wakers_over : (holds : Bool) (called new : S) (answer : Answer ℕ ℕ) (text : List ℕ)
      → TellsWakers one holds called answer new text → TellsWakers other holds called answer new text
  wakers_over true called new answer text tells = tells
  wakers_over false called new answer text tells = tells

  line_over : (line text : List ℕ) (labels after : Labels) (old new : S)
      → AnswersLine one line labels old after new text → AnswersLine other line labels old after new text
  line_over line text labels after old new it = record {
    holds = it.holds;
    answer = it.answer;
    called = it.called;
    calls = it.calls;
    tells = wakers_over it.holds it.called new it.answer text it.tells;
  }

  lines_over : (lines : List (List ℕ)) (labels after : Labels) (old new : S) (text : List ℕ)
      → AnswersLines one lines labels old after new text → AnswersLines other lines labels old after new text
  unfolding AnswersLines
  lines_over [] labels after old new text it = it
  lines_over (line ∷ lines) labels after old new text it = (
    it.0,
    it.1,
    it.2,
    it.3,
    line_over line it.2 labels it.1 old it.0 it.4,
    lines_over lines it.1 after it.0 new it.3 it.5,
    it.6,
  )

  module _ (opening : O) (opening_too : P) (opens_both : (state : S) → opens opening state → opens_too opening_too state)
      (rest : Option (List ℕ)) (text : List ℕ) where
    abbrev beginning_over : AnswersBeginning one (λ asked. asked ≡ opening) rest text
        → AnswersBeginning other (λ asked. asked ≡ opening_too) rest text
    beginning_over it = record {
      opening = opening_too;
      as_asked = refl;
      first = it.first;
      last = it.last;
      labels = it.labels;
      after = it.after;
      lines = it.lines;
      end = it.end;
      opened = opens_both it.first (subst (λ (o : O). opens o it.first) it.as_asked it.opened);
      no_labels = it.no_labels;
      are = it.are;
      answered = lines_over it.lines it.labels it.after it.first it.last text it.answered;
    }

    rest_over : AnswersRest one (λ asked. asked ≡ opening) rest text
        → AnswersRest other (λ asked. asked ≡ opening_too) rest text
    rest_over it = record {
      beginning = beginning_over it.beginning;
      ended = it.ended;
    }

    front_over : (number : ℕ) → AnswersFront one (λ asked. asked ≡ opening) rest number text
        → AnswersFront other (λ asked. asked ≡ opening_too) rest number text
    front_over number it = record {
      beginning = beginning_over it.beginning;
      bad = it.bad;
      later = it.later;
      next = it.next;
      is_bad = it.is_bad;
      number_is = it.number_is;
    }

    refused_over : (number : ℕ) → RefusesLine one (λ asked. asked ≡ opening) rest number text
        → RefusesLine other (λ asked. asked ≡ opening_too) rest number text
    refused_over number (inl none) = absurd (none.2 opening refl)
    refused_over number (inr front) = inr (front_over number front)

    short_over : RunsShort one (λ asked. asked ≡ opening) rest text → RunsShort other (λ asked. asked ≡ opening_too) rest text
    short_over (inl none) = inl none
    short_over (inr begun) = inr (beginning_over begun)

  pub answers_over : {W A : Type 0} {opening : O} {opening_too : P} {rest : Option (List ℕ)}
      {contents : W → Option (List ℕ)} {shown left : Output W} {r : Result A ScriptFault}
      → ((state : S) → opens opening state → opens_too opening_too state)
      → AnswersLeft one (λ asked. asked ≡ opening) rest contents shown left r
      → AnswersLeft other (λ asked. asked ≡ opening_too) rest contents shown left r
  answers_over {opening} {opening_too} {rest} opens_both told = answers_more
      (λ text it. rest_over opening opening_too opens_both rest text it)
      (λ number text it. refused_over opening opening_too opens_both rest text number it)
      (λ text it. short_over opening opening_too opens_both rest text it) told

-- What is opened over a buffer of this capacity is opened over the buffer of this name.
pub opens_named : (capacity_for : ℕ → ℕ) (capacity : ℕ) (buffer : Buffer) → capacity ≡ capacity_of buffer
    → capacity_for (capacity_of buffer) ≡ capacity_of buffer → (state : ChannelMachine ℕ ℕ)
    → Opens capacity_for capacity state → OpensOver buffer state
opens_named capacity_for capacity buffer is own state opens =
    let places : capacity_for capacity ≡ capacity_of buffer = ap capacity_for is ∙ own in
    (subst (λ (n : ℕ). state ≡ opened (empty n state.own.buffer.reserved)) places opens.0, opens.1)

-- ---- the words that name a buffer
-- A greater number has another numeral.
pub too_large : (n m : ℕ) → n ≤ 65536 → 65536 < m → m < 2 ^ 64 → (word : List ℕ) → word ≡ decimal m → word ≢ decimal n
too_large n m small large fits word is same =
    omega (arith, small, large, same_number n m (omega (arith, small)) fits (sym same ∙ is))

-- no heap buffer has this text
abbrev pub IsNoHeap : List ℕ → Type 0
IsNoHeap text = (capacity : ℕ) → capacity ≤ 65536
    → (text ≢ buffer_text (Fixed capacity)) × (text ≢ buffer_text (Growing capacity))

module _ (text word : List ℕ) (rest : Option (List ℕ)) (cut : IsCut 32 text word rest) where
  fixed_parts : (n : ℕ) → text ≡ buffer_text (Fixed n) → (word ≡ codes "fixed") × (rest ≡ Some (decimal n))
  fixed_parts n is = one_place 32 word (codes "fixed") rest (Some (decimal n)) text cut
      (cut_of text (codes "fixed") (Some (decimal n)) is heap_lacks.0)

  growing_parts : (n : ℕ) → text ≡ buffer_text (Growing n) → (word ≡ codes "growing") × (rest ≡ Some (decimal n))
  growing_parts n is = one_place 32 word (codes "growing") rest (Some (decimal n)) text cut
      (cut_of text (codes "growing") (Some (decimal n)) is heap_lacks.1)

  pub no_number : rest ≡ None → IsNoHeap text
  no_number alone n small =
      (λ is. none_is_not (sym alone ∙ (fixed_parts n is).1), λ is. none_is_not (sym alone ∙ (growing_parts n is).1))

  pub no_capacity : (last : List ℕ) → rest ≡ Some last → ((n : ℕ) → n ≤ 65536 → last ≢ decimal n) → IsNoHeap text
  no_capacity last is none n small = (
    λ same. none n small (some_same _ _ (sym is ∙ (fixed_parts n same).1)),
    λ same. none n small (some_same _ _ (sym is ∙ (growing_parts n same).1)),
  )

  pub no_heap_word : word ≢ codes "fixed" → word ≢ codes "growing" → IsNoHeap text
  no_heap_word not_fixed not_growing n small =
      (λ same. not_fixed (fixed_parts n same).0, λ same. not_growing (growing_parts n same).0)
