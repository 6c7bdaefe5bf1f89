pub mod Lists
pub mod Journaled
pub mod Fitting
pub mod Reported
pub mod GoingOn
pub mod Lines
pub mod Overlapping
pub mod Evidence
