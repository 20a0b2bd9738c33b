mod DesignsTaken
mod Places
mod Resumed
mod Taken
mod Valid
mod Whole
