-- The verbs of script lines.
use Rattle.std.specs.Prelude.{◌≢◌, ℕ, List, codes}
use Rattle.fi_run.specs.declared.script.verb.Verb.{Verb}
use Rattle.fi_run.specs.declared.script.verb.Verb.TheVariants.{Acquire, Cancel, Check, Close, Deadline, Delay, Disarm, Finish, GiveBack}
use Rattle.fi_run.specs.declared.script.verb.Verb.TheVariants.{Held, IsLocked, IsSet, Lock, Next, Permits, Poll, Receive, Release}
use Rattle.fi_run.specs.declared.script.verb.Verb.TheVariants.{Reset, Send, Set, Shutdown, Start, Stream, Submit}
use Rattle.fi_run.specs.declared.script.verb.Verb.TheVariants.{TryAcquire, TryLock, TryReceive, TrySend, Unlock, Wait}

abbrev pub verb_text : Verb → List ℕ
verb_text Acquire = codes "acquire"
verb_text Cancel = codes "cancel"
verb_text Check = codes "check"
verb_text Close = codes "close"
verb_text Deadline = codes "deadline"
verb_text Delay = codes "delay"
verb_text Disarm = codes "disarm"
verb_text Finish = codes "finish"
verb_text GiveBack = codes "give-back"
verb_text Held = codes "held"
verb_text IsLocked = codes "is-locked"
verb_text IsSet = codes "is-set"
verb_text Lock = codes "lock"
verb_text Next = codes "next"
verb_text Permits = codes "permits"
verb_text Poll = codes "poll"
verb_text Receive = codes "receive"
verb_text Release = codes "release"
verb_text Reset = codes "reset"
verb_text Send = codes "send"
verb_text Set = codes "set"
verb_text Shutdown = codes "shutdown"
verb_text Start = codes "start"
verb_text Stream = codes "stream"
verb_text Submit = codes "submit"
verb_text TryAcquire = codes "try-acquire"
verb_text TryLock = codes "try-lock"
verb_text TryReceive = codes "try-receive"
verb_text TrySend = codes "try-send"
verb_text Unlock = codes "unlock"
verb_text Wait = codes "wait"

-- no verb is spelled so
abbrev pub IsNoVerb : List ℕ → Type 0
IsNoVerb word = (verb : Verb) → word ≢ verb_text verb
