mod Fronts
mod Words
mod Runs
mod Starts
