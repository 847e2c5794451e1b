mod DeskLemmas
mod PoolIdle
mod PoolTies
