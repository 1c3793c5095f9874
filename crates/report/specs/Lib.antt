-- The texts of the tasks, and the statuses and lines of refusals. They are what the public clauses mean, so they are to be
-- read and believed.
pub mod Lines
pub mod Texts
pub mod VerdictTexts
pub mod VerifiedTexts
pub mod SummaryText
pub mod FaultLines
pub mod Refusals
