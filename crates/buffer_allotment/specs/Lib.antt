pub mod Allotted
