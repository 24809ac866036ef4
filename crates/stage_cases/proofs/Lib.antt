-- What the cases need beyond computing.
mod Ranges
