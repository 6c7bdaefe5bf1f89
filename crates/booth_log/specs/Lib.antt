pub mod Said
pub mod Known
pub mod Happenings
pub mod Texts
pub mod Calls
pub mod Laws
