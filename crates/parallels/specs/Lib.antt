pub mod Parallels
