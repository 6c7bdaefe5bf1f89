pub mod Margins
pub mod Rule
pub mod Known
pub mod Laws
pub mod Examples
