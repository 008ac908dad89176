pub mod Redirect
