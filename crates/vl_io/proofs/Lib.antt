pub mod Laws
mod Feeds
mod Pieces
mod Telling
mod Passing
