pub mod Steadiness
pub mod Previews
pub mod SteadinessRows
