mod Found
mod Accepted
mod Ends
