mod Listing
mod Putting
