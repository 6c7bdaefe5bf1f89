pub mod Hearing
pub mod Outlet
pub mod Waiting
pub mod Taking
