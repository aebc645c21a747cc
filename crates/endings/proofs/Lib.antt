pub mod Ending
pub mod Left
pub mod There
pub mod Why
pub mod Numbers
pub mod Told
