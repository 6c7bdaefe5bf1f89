pub mod Lists
pub mod Attributes
pub mod Prerequisites
pub mod Places
