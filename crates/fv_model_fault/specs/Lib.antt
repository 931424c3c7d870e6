pub mod Faults
pub mod Given
pub mod Places
pub mod SearchViews
pub mod SetPlaces
pub mod Sought
pub mod Told
pub mod Views
