pub mod Notices
