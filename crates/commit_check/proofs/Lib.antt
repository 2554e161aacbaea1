mod Known
mod Places
mod Redone
