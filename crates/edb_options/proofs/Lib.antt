-- clap's rows and its walk
mod RowLaws
mod GivenRows
mod Walks
mod WordSorts
mod Endings
mod Steps
mod Whole
-- numbers, and what is asked for
mod GivenNumbers
mod Asked
mod Counts
mod Getters
-- the rules, at words that are written out
mod Rows
