use Rattle.fi_scripts.specs.Texts.{fault_text}
use Rattle.fi_scripts.proofs.Numbered.{goes_on_if_ok}
use Rattle.fi_scripts.proofs.texts.put_back.Goals as goal

pub returns-clause-text : goal.returns-clause-text
returns-clause-text g c =
    goes_on_if_ok g.W.Write.contents c.args.output.now c.put_fault.new.output c.put.new.self c.put_number.new.self
    (fault_text c.args.fault) c.args.value c.put_number.result c.in_ok-put_fault.ensures.text c.in_ok-put.ensures.text
    c.put_number.ensures.numeral
