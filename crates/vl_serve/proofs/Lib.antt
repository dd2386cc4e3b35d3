mod Ends
mod Keeps
