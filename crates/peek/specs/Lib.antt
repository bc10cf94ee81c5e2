pub mod Peek
