-- The links of a heap's node, as it keeps them.
use Rattle.std.specs.Prelude.{ℕ, Option, Some, None}
use Rattle.fi_parts.specs.declared.heap_links.Standing.{Standing}
use Rattle.fi_parts.specs.declared.heap_links.Standing.TheVariants.{Top, Under, After, Apart}
use Rattle.fi_parts.specs.declared.heap_nodes.Back.{Back}
use Rattle.fi_parts.specs.declared.heap_nodes.Back.TheVariants.{Root, Parent, Sibling}
use Rattle.fi_parts.specs.declared.heap_nodes.HeapLinks.{HeapLinks}

-- the link that leads to a node of this standing
abbrev pub back_at : Standing → Option Back
back_at Top = Some Root
back_at (Under x) = Some (Parent x)
back_at (After x) = Some (Sibling x)
back_at Apart = None

-- the links of a node, which has them only if a link leads to it
abbrev pub links_at : Option Back → Option ℕ → Option ℕ → Option HeapLinks
links_at None child next = None
links_at (Some back) child next = Some (record { child = child; next = next; back = back })
