-- A pointer to a neighbour is null where there is none.
use Rattle.std.specs.Prelude.{Option, Some, None}
use denote.RawPtr.{Ptr, block_ptr, null_ptr, Testable}
use Rattle.fi_parts.specs.declared.blocks.block.BlockPtr.{BlockPtr}
use Rattle.fi_parts.specs.declared.blocks.block.Neighbour.TheInside.{Inside}

module _ {T : Type 0} where
  abbrev pub named_by : Ptr → Option (BlockPtr T)
  named_by null_ptr = None
  named_by (block_ptr b o) = Some (record { ptr = block_ptr b o })

  abbrev pub neighbour_of : Inside T → Option (BlockPtr T)
  neighbour_of n = named_by n.at

  -- it may be compared with null
  abbrev pub IsTestable : Inside T → Type 0
  IsTestable n = Testable n.at
