mod Lists
mod Tally
mod Looks
mod Places
mod Sounds
mod Bursts
mod Helps
mod Bags
mod Carrying
mod Counting
mod Handing
mod Moving
mod Passing
mod Taking
pub mod Crosses
