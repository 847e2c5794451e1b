use denote.RattleType.{RattleType}
use denote.Param.Send.{IsSync}
use Rattle.fi_parts.proofs.BlockCrosses.{BlockPlaces-sync}
use Rattle.fi_parts.specs.contracts.blocks.places.BlockPlaces.{the_row}

pub sync : (T : RattleType) → IsSync T → IsSync (the_row T)
sync = BlockPlaces-sync
