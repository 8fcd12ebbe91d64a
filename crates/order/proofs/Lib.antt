pub mod Arranging
pub mod Lists
