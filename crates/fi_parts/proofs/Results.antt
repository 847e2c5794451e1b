-- What holds after a call that may be refused.
use Rattle.std.proofs.Common.{Result, Ok, Err, IfOk, OnErr}

-- it holds where the call was answered, and where it was refused
pub either : {A E : Type 0} (result : Result A E) (Done : A → Type 0) (Refused P : Type 0) → IfOk result Done → OnErr result Refused →
    ((x : A) → Done x → P) → (Refused → P) → P
either (Ok x) Done Refused P done refused f g = f x done
either (Err e) Done Refused P done refused f g = g refused

-- what holds of an answer that was made, where the making says so
pub of_made : {A E : Type 0} (result : Result A E) (Done Then : A → Type 0) → IfOk result Done → ((x : A) → Done x → Then x) →
    IfOk result Then
of_made (Ok x) Done Then done f = f x done
of_made (Err e) Done Then done f = tt
