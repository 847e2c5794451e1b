use Rattle.std.proofs.Common.{◌≡◌, ◌∙◌, ap, sym, false}
use Rattle.fi_parts.specs.Links.{is_linked, without}
use Rattle.fi_parts.specs.LinkedBlocks.{links_at, chain_of}
use Rattle.fi_parts.proofs.Chains.{without_absent}
use Rattle.fi_parts.proofs.Moved.{Moved, Unlinks-at, Kept-read, chained-kept, order-kept, data-relinked}
use Rattle.fi_parts.proofs.blocks.linked.LinkedBlocks.unlink.Given.{Over}
use Rattle.fi_parts.proofs.blocks.linked.LinkedBlocks.unlink.Goals as goal

-- The block was not in the list, and nothing was written.
pub returns-then-not-linked-clause-chained : goal.returns-then-not-linked-clause-chained
returns-then-not-linked-clause-chained g c =
    chained-kept c.args.self.now _ c.requires.chained
    (Kept-read c.args.self.now c.args.at c.reach-links.result.now c.requires.live c.reach-links.ensures.value)

pub returns-then-not-linked-clause-order : goal.returns-then-not-linked-clause-order
returns-then-not-linked-clause-order g c =
    let free : is_linked (links_at c.args.self.now c.args.at) ≡ false = ap is_linked c.reach-links.ensures.value ∙ c.if-not-linked.true in
    order-kept c.args.self.now _ c.requires.chained
    (Kept-read c.args.self.now c.args.at c.reach-links.result.now c.requires.live c.reach-links.ensures.value)
    ∙ sym (without_absent _ _ (sym (c.requires.chained.flags c.args.at) ∙ free))

pub returns-then-not-linked-clause-data : goal.returns-then-not-linked-clause-data
returns-then-not-linked-clause-data g c = data-relinked c.args.self.now c.args.at c.reach-links.result.now c.requires.live

-- It was, and is loose now.
pub set_older-requires : goal.set_older-requires
set_older-requires g c = rw (c.replace-younger.ensures.after, c.loose.ensures)
    (Unlinks-at _ _ _ _ c.requires.chained c.reach-links.ensures.value c.replace-younger.ensures.value c.if-not-linked.false).younger

pub set_younger-requires : goal.set_younger-requires
set_younger-requires g c = rw (c.set_older.ensures, c.copied.ensures, c.replace-younger.ensures.after, c.loose.ensures)
    (Unlinks-at _ _ _ _ c.requires.chained c.reach-links.ensures.value c.replace-younger.ensures.value c.if-not-linked.false).older

moved : (g : Over) (c : goal.After-set_younger g)
    → Moved c.args.self.now c.set_younger.new.self (without c.args.at (chain_of c.args.self.now))
moved g c = rw (c.set_younger.ensures, c.set_older.ensures, c.copied.ensures, c.replace-younger.ensures.after, c.loose.ensures)
    (Unlinks-at _ _ _ _ c.requires.chained c.reach-links.ensures.value c.replace-younger.ensures.value c.if-not-linked.false).moved

pub returns-clause-chained : goal.returns-clause-chained
returns-clause-chained g c = (moved g c).chained

pub returns-clause-order : goal.returns-clause-order
returns-clause-order g c = (moved g c).order

pub returns-clause-data : goal.returns-clause-data
returns-clause-data g c = (moved g c).payload
