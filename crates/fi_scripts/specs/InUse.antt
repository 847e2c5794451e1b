-- The labels that are in use.
use Rattle.fi_scripts.specs.declared.labelled.Labelled.{Labelled}
use Rattle.fi_run.specs.declared.script.row.MadeFuture.{MadeFuture}
use Rattle.fi_scripts.specs.Labels.{code_of}
use Rattle.fi_scripts.specs.Lines.{Labels}
use Rattle.fi_scripts.specs.Standing.{standing}

-- the futures that the labels in use stand for
abbrev pub labels_of : Labelled MadeFuture → Labels
labels_of futures word = standing futures (code_of word)
