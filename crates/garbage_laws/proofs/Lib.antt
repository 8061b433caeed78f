pub mod Shuns
pub mod ShunsSeat
pub mod ShunsWords
pub mod ShunsKept
pub mod Beginning
pub mod Goes
pub mod OpenTables
pub mod Calls
