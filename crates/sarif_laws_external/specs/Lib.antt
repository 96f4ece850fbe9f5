pub mod Fileless
