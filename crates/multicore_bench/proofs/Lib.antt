pub mod Crosses
mod Handed
