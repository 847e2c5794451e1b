-- What a mutex and a semaphore ask of the blank of their ledger, for callers of this crate.
pub use Rattle.fi_sync.specs.Blanks.{IsLockBlank, IsPermitBlank}
