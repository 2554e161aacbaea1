mod Chunks
mod Levels
