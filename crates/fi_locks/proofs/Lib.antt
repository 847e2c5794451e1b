pub mod Leaving
pub mod OldestTold
pub mod Polls
pub mod MutexSteps
pub mod SemaphoreMarks
pub mod SemaphoreSteps
pub mod TellingRounds
