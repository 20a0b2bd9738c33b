mod Most
mod Lines
mod Listed
mod Moves
mod Users
mod Roles
mod Tests
