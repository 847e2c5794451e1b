-- Texts that go on with a number.
use Rattle.std.specs.Prelude.{ℕ, List, codes, Option, Some, None, Result, OnOk}
use Rattle.std.proofs.lemmas.Result.{on_ok_weaker}
use Rattle.std.specs.Fmt.{decimal}
use Rattle.fi_scripts.specs.declared.output.Output.{Output}
use Rattle.fi_scripts.specs.Outputs.{GoesOn}
use Rattle.fi_scripts.specs.Texts.{with_number}
use Rattle.fi_scripts.proofs.Bytes.{appends_twice}

pub goes_on_with_number : {W : Type 0} (contents : W → Option (List ℕ)) (old between later new : Output W)
    (text : Option (List ℕ)) (number : ℕ)
    → GoesOn contents old between text → GoesOn contents between later (Some (codes " "))
    → GoesOn contents later new (Some (decimal number))
    → GoesOn contents old new (with_number text number)
goes_on_with_number contents old between later new None number first space last = first
goes_on_with_number contents old between later new (Some text) number first space last =
    appends_twice _ _ _ _ _ (appends_twice _ _ _ _ _ first space) last

pub goes_on_if_ok : {W A E : Type 0} (contents : W → Option (List ℕ)) (old between later new : Output W)
    (text : Option (List ℕ)) (number : ℕ) (r : Result A E)
    → GoesOn contents old between text → GoesOn contents between later (Some (codes " "))
    → OnOk r (GoesOn contents later new (Some (decimal number)))
    → OnOk r (GoesOn contents old new (with_number text number))
goes_on_if_ok contents old between later new text number r first space =
    on_ok_weaker r (goes_on_with_number contents old between later new text number first space)
