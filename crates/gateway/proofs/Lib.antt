mod Single
mod Promised
mod Following
