mod Reached
